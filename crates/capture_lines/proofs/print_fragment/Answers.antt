-- `capture_lines::print_fragment` meets its contract: what was found of the block and the tables says what the fragment is shaded as, and each case prints that line.
use Rattle.capture_lines.specs.LinesLaws.{refused_shown}
use Rattle.capture_lines.proofs.print_fragment.Goals as goal

pub returns-in-Err-clause-text : goal.returns-in-Err-clause-text
returns-in-Err-clause-text c = rw (c.in-Err.is, refused_shown c.in-Err.refusal) c.put_refused.ensures.text
