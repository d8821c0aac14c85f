use Rattle.std.proofs.Common.{◌≡◌, ◌*◌, map}
use Rattle.block.specs.Block.{words, slot_at, zeros}
use Rattle.lighting.specs.Lighting.{slot_of}
use Rattle.block_check.specs.Steps.{clear}
use Rattle.block_check.proofs.zeros.unused_are_zero.Given as goal

abbrev pub invariant-loop-slot : goal.invariant-loop-slot
invariant-loop-slot g l = clear l.lanes ≡ zeros (words (map g.W.Word.value l.block)) (slot_at (slot_of l.count)) (36 * l.slot-index)
