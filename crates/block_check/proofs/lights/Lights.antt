-- One more light into what was found: each part is put together by OR, and the parts are tested part by part or light by light alike. The last row of a
-- formed light has small words, so that all its rows are numbers exactly if the first eight are. Assumes nothing.
use Prim.Native.Nat.{ℕ, ◌+◌, ◌*◌, ◌<◌}
use native.Mathlib.Omega.{arith}
use mathlib.Core.Path.{◌≡◌, refl, ap, ◌∙◌}
use mathlib.Core.Bool.{Bool, true, ◌&&◌, ◌||◌, and-true, and_assoc}
use lib.Bits.{bit_or}
use lib.Dec.{eqb, ltb, lit<}
use borrow.Author.Tests.{ltb-true}
use Rattle.lighting.specs.Forms.{every}
use Rattle.block.specs.Block.{bit_at, is_number}
use Rattle.block.specs.TestLaws.{◌also◌}
use Rattle.block.specs.WordLaws.{small_number, zero_at}
use Rattle.block_check.specs.declared.lanes.Lanes.{Lanes}
use Rattle.block_check.specs.declared.lights.Found.{Found}
use Rattle.block_check.specs.Steps.{light_padded, light_formed, found_formed, numbers}
use Rattle.block_check.specs.OrLaws.{or_more, or_below, across_three, every_more}
use Rattle.block_check.proofs.Parts.{every_same}
use Rattle.block_check.proofs.Shape.{light_parts, light_end}

-- x and y are the flags and the number of a light's words v; p and m are zero exactly if its padding and its missing distance are
pub light_more : (found : Found) (v : ℕ → ℕ) (nans : Lanes) (p m x y : ℕ) → eqb p 0 ≡ light_padded v → eqb m 0 ≡ (bit_at x 16 || (eqb (v 28) 0 && eqb (v 29) 0)) → x ≡ v 32 → y ≡ v 33
    → found_formed (record { nans = nans; zeros = bit_or (bit_or found.zeros p) m; flags = bit_or found.flags x; numbers = bit_or found.numbers y }) ≡ (found_formed found && light_formed v)
unfolding found_formed light_formed
light_more found v nans p m x y e g h k =
    let without = bit_at x 16 || (eqb (v 28) 0 && eqb (v 29) 0) in
    rw (or_more (bit_or found.zeros p) m _ _ (or_more found.zeros p _ _ refl e) g, or_below 7 found.flags x 128 refl, or_below 3 found.numbers y 8 refl, and_assoc (eqb found.zeros 0) (light_padded v) without, ← h, ← k)
    (across_three (eqb found.zeros 0) (light_padded v && without) (ltb found.flags 128) (ltb x 128) (ltb found.numbers 8) (ltb y 8))

last_numbers : (v : ℕ → ℕ) → light_formed v ≡ true → every 4 (λ k. is_number (v (32 + k))) ≡ true
unfolding every
last_numbers v h =
    let f = ltb-true (v 32) 128 (light_parts v h).flags in
    let n = ltb-true (v 33) 8 (light_parts v h).number in
    let z = light_end v h in
    let x : 0 ≡ v 34 = zero_at v 34 2 0 z (lit< tt) in
    let y : 0 ≡ v 35 = zero_at v 34 2 1 z (lit< tt) in
    small_number (v 32) (omega arith) also small_number (v 33) (omega arith) also small_number (v 34) (omega arith) also small_number (v 35) (omega arith)

pub last_row : (v : ℕ → ℕ) → light_formed v ≡ true → every 36 (λ k. is_number (v k)) ≡ every 32 (λ k. is_number (v k))
last_row v h =
    every_more (λ k. is_number (v k)) 32 4 ∙ ap (λ (b : Bool). every 32 (λ k. is_number (v k)) && b) (last_numbers v h) ∙ and-true (every 32 (λ k. is_number (v k)))

-- the words v of one more light, after the global ambient's and those of s lights
pub lights_more : (w v : ℕ → ℕ) (s : ℕ) (x y : Bool) → light_formed v ≡ true → ((k : ℕ) → k < 36 → v k ≡ w (40 + 36 * s + k)) → x ≡ numbers w 36 (4 + 36 * s) → y ≡ (x && every 32 (λ k. is_number (v k)))
    → y ≡ numbers w 36 (4 + 36 * (s + 1))
lights_more w v s x y h same e f =
    let n : 4 + 36 * (s + 1) ≡ 4 + 36 * s + 36 = omega arith in
    let d : (k : ℕ) → 40 + 36 * s + k ≡ 36 + (4 + 36 * s + k) = λ k. omega arith in
    let t : every 36 (λ k. is_number (v k)) ≡ every 36 (λ k. is_number (w (36 + (4 + 36 * s + k)))) =
    every_same 36 _ _ (λ k m. ap is_number (same k m ∙ ap w (d k))) in
    rw (n, every_more (λ k. is_number (w (36 + k))) (4 + 36 * s) 36, ← t, last_row v h, ← e) f
