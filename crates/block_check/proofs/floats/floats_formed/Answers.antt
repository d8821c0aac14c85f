-- `floats::floats_formed` meets its contract: the words of the part from 36 on are the block's.
use Rattle.std.proofs.Common.{◌≡◌, ◌+◌, ◌-◌, ◌*◌, ℕ, map, length, take, drop, arith, ap, ◌∙◌}
use Rattle.lighting.specs.Forms.{every}
use Rattle.block.specs.Block.{words, float_formed}
use Rattle.block_check.proofs.Parts.{every_same, part_word, part_length}
use Rattle.block_check.proofs.floats.floats_formed.Goals as goal

pub returns : goal.returns
returns g c =
    let ws = c.args.block.now in
    let value = g.W.Word.value in
    let n = 40 + 36 * c.args.count - 36 in
    let e : n ≡ 4 + 36 * c.args.count = omega arith in
    let long : length (take n (drop 36 ws)) ≡ n = part_length ws 36 n (omega (arith, c.requires, c.told-block)) in
    rw (c.as_slice.ensures, long) at c.together.ensures
    ∙ every_same n _ (λ k. float_formed (words (map value ws) (36 + k))) (λ k m. ap float_formed (part_word value ws 36 n k m))
    ∙ ap (λ (m : ℕ). every m (λ k. float_formed (words (map value ws) (36 + k)))) e
