use Rattle.std.proofs.Common.{map}
use Rattle.std.specs.Prelude.{◌≡◌}
use Rattle.block.specs.Block.{words, block_lights}
use Rattle.shading.specs.Steps.{sums_by}
use Rattle.block_shading.proofs.slots.sum_slots.Given as goal

-- the sums are the definition's after the slots before this one
abbrev pub invariant-loop-slot : goal.invariant-loop-slot
invariant-loop-slot g l =
    l.sums ≡ sums_by (map g.T.Word.value l.tables) l.lookups l.frame l.settings (block_lights (words (map g.B.Word.value l.block.marked.words.now))) l.count l.slot
