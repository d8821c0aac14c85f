-- `slots::slots_of` meets its contract: slot s is the chunk that begins 36 s words after word 40.
use Rattle.std.proofs.Common.{◌≡◌, ◌+◌, ◌-◌, ◌*◌, ◌/◌, map, drop, take, length, ℕ, arith, ap, ◌∙◌}
use Rattle.block.specs.Block.{words, slot_at}
use Rattle.lighting.specs.Lighting.{slot_of}
use Rattle.block_check.proofs.Parts.{chunk_word, chunk_length, part_word, part_length}
use Rattle.block_check.proofs.slots.slots_of.Goals as goal

pub returns : goal.returns
returns g c =
    let value = g.W.Word.value in
    let ws = c.args.block.now in
    let cs = c.as_chunks.result.0.now in
    let n = length ws - 40 in
    let front = rw c.as_slice.ensures at c.as_chunks.ensures.front in
    let many : length cs ≡ length (take n (drop 40 ws)) / 36 = rw c.as_slice.ensures at c.as_chunks.ensures.front_len in
    let long : length (take n (drop 40 ws)) ≡ n = part_length ws 40 n (omega (arith, c.told-block)) in
    let e : (s k : ℕ) → 40 + (36 * s + k) ≡ slot_at (slot_of s) + k = λ s k. omega arith in
    record {
      eight = omega (arith, many, long, c.told-block);
      long = λ s d h. chunk_length 36 _ _ cs s d front (omega (arith, many, long, c.told-block)) (omega (arith, many, long, c.told-block));
      same = λ s k d h m.
          chunk_word value 36 _ _ cs s k d front (omega (arith, many, long, c.told-block)) m
          ∙ part_word value ws 40 n (36 * s + k) (omega (arith, c.told-block))
          ∙ ap (words (map value ws)) (e s k);
    }
