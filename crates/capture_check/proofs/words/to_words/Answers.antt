-- `words::to_words` meets its contract. The words that are still to be written, from the place so far, stay what was due; there are as
-- many as the bytes have, so they fit.
use Rattle.std.proofs.Common.{◌≡◌, length, length-set, refl, sym, ap, ◌∙◌, arith, get_or}
use Rattle.std.proofs.lemmas.List.{length-map}
use Rattle.sources.specs.Sources.{word_of, words_of}
use Rattle.sources.specs.SourcesLaws.{length_words}
use Rattle.printing.specs.Steps.{puts}
use Rattle.printing.specs.WritingLaws.{puts_next}
use Rattle.sources.specs.PieceLaws.{drop_none}
use Rattle.capture_check.proofs.words.to_words.Goals as goal

pub loop-i-init : goal.loop-i-init
loop-i-init c =
    let e = c.words_of-from.ensures in
    (sym (length-map c.words_of-from.result.now word_of) ∙ ap length e ∙ length_words c.args.input.now, e, refl, refl)

pub bounds-words-i : goal.bounds-words-i
bounds-words-i c = let l = c.loop-i in omega (arith, l.invariant.0, l.invariant.2)

pub loop-i-preserved : goal.loop-i-preserved
loop-i-preserved c =
    let input = c.args.input.now in
    let l = c.loop-i in (
      l.invariant.0,
      l.invariant.1,
      simp length-set l.invariant.2,
      sym (puts_next l.words (words_of input) l.i l.i _ (omega (arith, length_words input, l.invariant.0)) (c.value_at.ensures ∙ ap (λ w. get_or w l.i 0) l.invariant.1)) ∙ l.invariant.3,
    )

pub returns : goal.returns
unfolding puts
returns c =
    let input = c.args.input.now in
    let l = c.loop-i in
    let e : length c.words_of-from.result.now ≡ l.i = omega (arith, l.invariant.0) in
    (rw e (rw (drop_none (words_of input) l.i (omega (arith, length_words input, l.invariant.0))) at l.invariant.3), omega (arith, l.invariant.0, l.invariant.2))
