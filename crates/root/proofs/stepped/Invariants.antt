use Prim.Native.Nat.{◌+◌, ◌-◌, ◌*◌, ◌≤◌}
use Rattle.root.proofs.stepped.Given as goal

abbrev pub invariant-loop-r : goal.invariant-loop-r
invariant-loop-r l = l.r ≤ 33554432

abbrev pub decreases-loop-r : goal.decreases-loop-r
decreases-loop-r l = 33554432 - l.r

abbrev pub invariant-loop-r-2 : goal.invariant-loop-r-2
invariant-loop-r-2 l = (l.w ≤ l.r * l.r + l.r) × (l.r ≤ 33554432)

abbrev pub decreases-loop-r-2 : goal.decreases-loop-r-2
decreases-loop-r-2 l = l.r
