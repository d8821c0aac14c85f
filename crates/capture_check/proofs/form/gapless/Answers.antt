-- `form::gapless` meets its contract. What the bodies from the place on say stays what all of them say.
use Rattle.std.proofs.Common.{◌≡◌, get_or, [], sym, ap, ◌∙◌, arith}
use Rattle.capture_check.specs.Contents.{Body, gapless}
use Rattle.capture_check.specs.ContentsLaws.{lies_end}
use Rattle.capture_check.specs.StepsLaws.{gapless_go, gapless_stop, bodies_none}
use Rattle.capture_check.proofs.form.gapless.Goals as goal

pub returns-then-not-lies : goal.returns-then-not-lies
returns-then-not-lies c =
    let l = c.loop-triple in
    sym (gapless_stop c.args.contents.now l.triple-index (omega arith) l.at c.args.end (rw c.from-entry.ensures at (sym c.lies.ensures ∙ c.if-not-lies.true))) ∙ l.invariant.1

pub overflow_add-at : goal.overflow_add-at
overflow_add-at c = omega (arith, lies_end _ _ _ (sym c.lies.ensures ∙ c.if-not-lies.false))

pub loop-triple-preserved : goal.loop-triple-preserved
loop-triple-preserved c =
    let l = c.loop-triple in
    let e = sym c.lies.ensures ∙ c.if-not-lies.false in
    let size : c.from-entry.result.size ≡ get_or (get_or c.args.contents.now l.triple-index []) 2 0 = ap (λ (b : Body). b.size) c.from-entry.ensures in
    (omega (arith, lies_end _ _ _ e), rw size (sym (gapless_go c.args.contents.now l.triple-index (omega arith) l.at c.args.end (rw c.from-entry.ensures at e)) ∙ l.invariant.1))

pub returns : goal.returns
unfolding gapless
returns c = let l = c.loop-triple in rw (bodies_none c.args.contents.now l.triple-index (omega arith)) at l.invariant.1
