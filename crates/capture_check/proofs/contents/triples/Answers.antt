-- `contents::triples` meets its contract: the chunks of three words between the count and the end of the contents.
use Rattle.capture_check.specs.StepsLaws.{bodies_all}
use Rattle.capture_check.proofs.contents.triples.Goals as goal

pub returns : goal.returns
returns c = rw c.as_chunks.ensures.front (bodies_all c.args.words.now c.requires)
