use Prim.Native.Nat.{ℕ, ◌<◌}
use Rattle.lighting.specs.Lighting.{light_at, slot_of}
use Rattle.lighting.specs.Claims.{LightFits}
use Rattle.block.proofs.accepted.lights_fit.Given as goal

abbrev pub invariant-loop-slot : goal.invariant-loop-slot
invariant-loop-slot l = (k : ℕ) → k < l.slot → LightFits (light_at l.l (slot_of k))
