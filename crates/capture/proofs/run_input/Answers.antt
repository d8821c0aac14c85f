-- `capture::run_input` meets its contract. The words that are run stand at the front of the array, and the size is looked at first.
use Rattle.std.proofs.Common.{replicate, sym, ◌∙◌}
use Rattle.sources.specs.Sources.{words_of}
use Rattle.capture_check.specs.ContentsLaws.{sized_most}
use Rattle.capture.proofs.Whole.{sized_bad, sized_good, front_words}
use Rattle.capture.proofs.run_input.Goals as goal

pub returns-then-not-sized-clause-number : goal.returns-then-not-sized-clause-number
returns-then-not-sized-clause-number c = sized_bad _ (sym c.sized.ensures ∙ c.if-not-sized.true)

pub to_words-n-requires : goal.to_words-n-requires
to_words-n-requires c = sized_most _ (sym c.sized.ensures ∙ c.if-not-sized.false)

pub returns-clause-number : goal.returns-clause-number
returns-clause-number c =
    let n = c.to_words-n in
    let input = c.args.input.now in
    let w = front_words (replicate 16384 0) n.new.words (words_of input) n.result n.ensures.0 n.ensures.1 n.auto.words in
    rw (← w) c.run_words.ensures.number ∙ sized_good input (sym c.sized.ensures ∙ c.if-not-sized.false)

pub returns-clause-text : goal.returns-clause-text
returns-clause-text c =
    let n = c.to_words-n in
    let w = front_words (replicate 16384 0) n.new.words (words_of c.args.input.now) n.result n.ensures.0 n.ensures.1 n.auto.words in
    rw (← w) c.run_words.ensures.text
