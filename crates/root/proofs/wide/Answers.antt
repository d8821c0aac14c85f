-- `root::wide` meets its contract: `Place` has the fact for each of its two branches.
use mathlib.Core.Path.{sym, subst}
use Prim.Native.Nat.{ℕ, ◌*◌}
use native.Mathlib.Omega.{arith}
use Rattle.root.specs.Steps.{Wide}
use Rattle.root.proofs.Place.{wide_even, wide_odd}
use Rattle.root.proofs.wide.Goals as goal
use Rattle.root.proofs.wide.Goals.{else-z-lt8388608, then-z-lt8388608}

pub returns : goal.returns
returns c =
    let z = c.args.z in
    elim c.if-z-lt8388608.branch [ then-z-lt8388608 w ↦ subst (λ (d : ℕ). Wide z (d * 8388608)) (sym w.d-is) (wide_even z w.if-z-lt8388608.true) | else-z-lt8388608 w ↦ subst (λ (d : ℕ). Wide z (d * 8388608)) (sym w.d-is) (wide_odd z w.if-z-lt8388608.false (omega arith)) ]
