-- `registers::registers_right` meets its contract. What the bodies from the place on say stays what all of them say.
use Rattle.std.proofs.Common.{sym, ap, ◌∙◌, arith}
use Rattle.capture_check.specs.Contents.{Body, words_in, body_right, registers_right}
use Rattle.capture_check.specs.StepsLaws.{right_go, right_stop, bodies_none}
use Rattle.capture_check.proofs.registers.registers_right.Goals as goal

pub returns-then-not-body_right : goal.returns-then-not-body_right
returns-then-not-body_right c =
    let l = c.loop-triple in
    let e = ap (λ (b : Body). body_right b.kind (words_in c.args.words.now b)) (sym c.from-entry.ensures) in
    sym (right_stop c.args.contents.now l.triple-index (omega arith) c.args.words.now (e ∙ rw c.body_words.ensures at (sym c.body_right.ensures ∙ c.if-not-body_right.true))) ∙ l.invariant

pub loop-triple-preserved : goal.loop-triple-preserved
loop-triple-preserved c =
    let l = c.loop-triple in
    let e = ap (λ (b : Body). body_right b.kind (words_in c.args.words.now b)) (sym c.from-entry.ensures) in
    sym (right_go c.args.contents.now l.triple-index (omega arith) c.args.words.now (e ∙ rw c.body_words.ensures at (sym c.body_right.ensures ∙ c.if-not-body_right.false))) ∙ l.invariant

pub returns : goal.returns
unfolding registers_right
returns c = let l = c.loop-triple in rw (bodies_none c.args.contents.now l.triple-index (omega arith)) at l.invariant
