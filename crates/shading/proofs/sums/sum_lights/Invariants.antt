use Rattle.std.proofs.Common.{map}
use Rattle.std.specs.Prelude.{◌≡◌}
use Rattle.shading.specs.Steps.{sums_by}
use Rattle.shading.proofs.sums.sum_lights.Given as goal

-- the sums are the definition's after the slots before this one
abbrev pub invariant-loop-slot : goal.invariant-loop-slot
invariant-loop-slot g l = l.sums ≡ sums_by (map g.W.Word.value l.tables) l.lookups l.frame l.settings l.lights l.count l.slot
