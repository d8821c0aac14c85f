use Rattle.std.proofs.Common.{map}
use Rattle.std.specs.Prelude.{◌*◌, ◌≡◌, take}
use Rattle.block.specs.Block.{words, block_lighting}
use Rattle.block_shading.specs.Steps.{eights}
use Rattle.block_shading.proofs.slots.shade_each.Given as goal

-- the answers of the fragments before this one stand
abbrev pub invariant-loop-i : goal.invariant-loop-i
invariant-loop-i g l =
    take (8 * l.i) l.answers
    ≡ eights (block_lighting (words (map g.B.Word.value l.block.marked.words.now))) (map g.T.Word.value l.tables) g.F.Word.value (take l.i l.fragments)
