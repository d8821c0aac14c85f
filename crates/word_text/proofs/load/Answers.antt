-- Each turn goes by the definition's step at the place.
use Rattle.std.proofs.Common.{arith, sym, ap, ◌∙◌, ◌≡◌, ℕ, length}
use Rattle.word_text.specs.Load.{loaded_as}
use Rattle.word_text.proofs.Places.{load_word, load_none, load_full}
use Rattle.word_text.proofs.load.Goals as goal

pub loop-n-preserved : goal.loop-n-preserved
loop-n-preserved c =
    let l = c.loop-n in
    sym (load_word c.args.text.now l.at l.n l.out _ _ (omega arith) (sym c.next_word.ensures ∙ c.in-Some.is)) ∙ l.invariant

pub returns-clause-out_after : goal.returns-clause-out_after
returns-clause-out_after c =
    let l = c.loop-n in
    let e : length l.out ≡ l.n = omega arith in
    ap (λ (j : ℕ). loaded_as j l.out) e ∙ sym (load_full c.args.text.now l.at l.n l.out (omega arith)) ∙ l.invariant

pub returns-in_default-clause-out_after : goal.returns-in_default-clause-out_after
returns-in_default-clause-out_after c =
    let l = c.loop-n in
    sym (load_none c.args.text.now l.at l.n l.out (omega arith) (sym c.next_word.ensures ∙ c.in_default.is)) ∙ l.invariant
