-- `accepted::lights_fit` meets its contract. The loop's invariant: it holds of the lights before the slot.
use native.Mathlib.Nat.{not-suc-le-zero}
use native.Mathlib.Omega.{arith}
use borrow.Author.Count.{below_more}
use Rattle.lighting.specs.Lighting.{light_at}
use Rattle.block.proofs.accepted.lights_fit.Goals as goal

pub loop-slot-init : goal.loop-slot-init
loop-slot-init c = λ k h. absurd (not-suc-le-zero h)

pub loop-slot-preserved : goal.loop-slot-preserved
unfolding light_at
loop-slot-preserved c = below_more _ _ c.loop-slot.invariant c.light_fits.ensures

pub returns : goal.returns
returns c = λ s h. c.loop-slot.invariant s (omega arith)
