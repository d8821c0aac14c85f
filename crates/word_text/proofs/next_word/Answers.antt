-- Each turn goes by the definition's step at the place.
use Rattle.std.proofs.Common.{arith, sym, ◌∙◌}
use Rattle.word_text.proofs.Places.{next_end, next_gap, next_word}
use Rattle.word_text.proofs.next_word.Goals as goal

pub returns-then-not-is_gap : goal.returns-then-not-is_gap
returns-then-not-is_gap c =
    let l = c.loop-i in
    c.digits.ensures
    ∙ sym (next_word l.remark l.i c.args.text.now (omega arith) (sym c.is_gap.ensures ∙ c.if-not-is_gap.true))
    ∙ l.invariant

pub loop-i-preserved : goal.loop-i-preserved
loop-i-preserved c =
    let l = c.loop-i in
    rw c.in_remark-remark.ensures
    (sym (next_gap l.remark l.i c.args.text.now (omega arith) (sym c.is_gap.ensures ∙ c.if-not-is_gap.false)) ∙ l.invariant)

pub returns : goal.returns
returns c = let l = c.loop-i in sym (next_end l.remark l.i c.args.text.now (omega arith)) ∙ l.invariant
