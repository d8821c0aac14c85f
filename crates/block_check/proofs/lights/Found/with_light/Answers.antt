-- `lights::Found::with_light` meets its contract: its first 32 words are tested as those of the part are.
use Rattle.std.proofs.Common.{◌≡◌, Bool, ◌&&◌, length, take, arith, ap, ◌∙◌}
use Rattle.block.specs.Block.{is_number}
use Rattle.block_check.specs.Steps.{clear}
use Rattle.block_check.proofs.Parts.{every_same, front_word, front_length}
use Rattle.block_check.proofs.lights.Found.with_light.Goals as goal

pub returns-clause-nans : goal.returns-clause-nans
returns-clause-nans g c =
    let a = c.args in
    let long : length (take 32 a.light.now) ≡ 32 = front_length a.light.now 32 (omega (arith, c.told-light)) in
    rw long at c.with_rows-nans.ensures ∙ ap (λ (b : Bool). clear a.self.nans && b) (every_same 32 _ _ (λ k m. ap is_number (front_word g.W.Word.value a.light.now 32 k m)))
