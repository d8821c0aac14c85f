-- `words::words_of` meets its contract: the runs of four bytes are the words (WordsLaws), and the library's runs are those of the whole slice.
use Rattle.std.proofs.Common.{◌∙◌, ap, map}
use Rattle.sources.specs.Sources.{word_of}
use Rattle.sources.proofs.WordsLaws.{runs_are_words}
use Rattle.sources.proofs.words.words_of.Goals as goal

pub returns : goal.returns
returns c = ap (λ l. map word_of l) c.as_chunks.ensures.front ∙ runs_are_words c.args.bytes.now
