use Rattle.std.proofs.Common.{map}
use mathlib.Core.Path.{◌≡◌}
use Rattle.block.specs.Block.{words}
use Rattle.block_reading.proofs.Lights.{first_lights}
use Rattle.block_reading.proofs.lights_of.Given as goal

abbrev pub invariant-loop-slot : goal.invariant-loop-slot
invariant-loop-slot g l = l.lights ≡ first_lights (words (map g.W.Word.value l.block.words.now)) l.slot
