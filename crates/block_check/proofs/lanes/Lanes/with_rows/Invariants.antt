use Rattle.std.proofs.Common.{◌≡◌, ◌*◌, ◌&&◌, map}
use Rattle.block.specs.Block.{words}
use Rattle.lighting.specs.Forms.{every}
use Rattle.block_check.specs.Steps.{clear}
use Rattle.block_check.proofs.lanes.Lanes.with_rows.Given as goal

abbrev pub invariant-loop-row : goal.invariant-loop-row
invariant-loop-row g l = clear l.lanes ≡ (clear l.initial.lanes && every (4 * l.row-index) (λ k. g.T.WordTest.passes (words (map g.W.Word.value l.part) k)))
