-- `root::rooted` meets its contract: `wide` says of what number the root is taken, and `answer` of `Rounded` what pattern its nearest whole root belongs to.
use mathlib.Core.Path.{refl, ◌∙◌}
use Prim.Native.Nat.{◌/◌}
use native.Mathlib.Omega.{arith}
use Rattle.root.proofs.Rounded.{answer, near_hi}
use Rattle.root.proofs.rooted.Goals as goal

pub returns : goal.returns
returns c =
    let n = c.args.n in
    let w = c.wide in
    let r = c.nearest-r.result in
    let h = near_hi w.result r w.ensures.hi c.nearest-r.ensures in
    record { small = omega arith; is = λ N e. answer N w.result (n / 16777216) r w.ensures.lo w.ensures.hi (e ∙ w.ensures.is n refl) c.nearest-r.ensures (omega arith) }
