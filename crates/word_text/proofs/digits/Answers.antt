-- Each turn goes by the definition's step at the place.
use Rattle.std.proofs.Common.{arith, rules, sym, ap, ◌∙◌, ◌<◌, ◌≡◌, ◌+◌, ◌-◌, ℕ, lit<, refl, drop, Some}
use Rattle.word_text.proofs.Places.{digits_done, digits_past, digits_none, digits_more, fits, room}
use Rattle.word_text.proofs.digits.Goals as goal

pub loop-i-init : goal.loop-i-init
loop-i-init c =
    let at = c.args.at in
    let e : at + 8 - at ≡ 8 = omega arith in
    let z : at - at ≡ 0 = omega arith in
    (rw e refl, rw z (lit< tt))

pub returns-then-i-text : goal.returns-then-i-text
returns-then-i-text c =
    let l = c.loop-i in
    sym (digits_past (c.args.at + 8 - l.i) l.n l.i c.args.text.now (omega arith) (omega arith)) ∙ l.invariant.0

pub returns-in_err-n : goal.returns-in_err-n
returns-in_err-n c =
    let l = c.loop-i in
    rw c.from_residual.ensures (sym (digits_none (c.args.at + 8 - l.i) l.n l.i c.args.text.now (omega arith) (omega arith) (sym c.in_err-n.was ∙ c.digit.ensures.value)) ∙ l.invariant.0)

pub overflow_mul-n : goal.overflow_mul-n
overflow_mul-n c =
    let few : c.loop-i.n < 0x10000000 = fits c.loop-i.n (c.loop-i.i - c.args.at) (omega arith) c.loop-i.invariant.1 in search rules

pub overflow_add-n : goal.overflow_add-n
overflow_add-n c =
    let few : c.loop-i.n < 0x10000000 = fits c.loop-i.n (c.loop-i.i - c.args.at) (omega arith) c.loop-i.invariant.1 in
    let small = c.in_ok-n.ensures.bound in search rules

pub loop-i-preserved : goal.loop-i-preserved
loop-i-preserved c =
    let l = c.loop-i in
    let at = c.args.at in
    let d = c.in_ok-n.field-0 in (
      sym (digits_more (at + 8 - l.i) (at + 8 - (l.i + 1)) l.n l.i c.args.text.now d (omega arith) (omega arith) (sym c.in_ok-n.was ∙ c.digit.ensures.value)) ∙ l.invariant.0,
      room l.n d (l.i - at) (l.i + 1 - at) (omega arith) l.invariant.1 c.in_ok-n.ensures.bound,
    )

pub returns : goal.returns
returns c =
    let l = c.loop-i in
    let e : c.args.at + 8 ≡ l.i = omega arith in
    ap (λ (j : ℕ). Some (l.n, j)) e ∙ sym (digits_done (c.args.at + 8 - l.i) l.n l.i (drop l.i c.args.text.now) (omega arith)) ∙ l.invariant.0
