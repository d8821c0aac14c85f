use mathlib.Core.Path.{◌≡◌}
use Rattle.block.specs.Block.{slots_words}
use Rattle.packing.specs.Steps.{put_words}
use Rattle.packing.proofs.fill.Given as goal

abbrev pub invariant-loop-slot : goal.invariant-loop-slot
invariant-loop-slot l = l.block ≡ put_words l.initial.block 40 (slots_words l.l l.slot)
