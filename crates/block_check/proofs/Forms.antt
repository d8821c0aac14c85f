-- The form of a block's words, by the tests of the check: each answer from the tests that lead to it. A block of the right shape can hold
-- a NaN only from word 36 to the end of the lit slots. Assumes nothing.
use Prim.Native.Nat.{ℕ, ◌+◌, ◌-◌, ◌*◌, ◌<◌, ◌≤◌}
use native.Mathlib.Omega.{arith}
use mathlib.Core.Path.{◌≡◌, refl, sym, ap, subst, ◌∙◌}
use mathlib.Core.Bool.{Bool, true, false, cond}
use lib.Dec.{leb}
use borrow.Author.Tests.{le-leb, lt-leb}
use Rattle.lighting.specs.Forms.{every}
use Rattle.lighting.specs.Lighting.{slot_of}
use Rattle.block.specs.declared.BlockForm.TheVariants.{Off, NotWellFormed, NanFree, WithNan}
use Rattle.block.specs.Block.{slot_at, zeros, all_zero, is_number, float_formed, well_formed}
use Rattle.block.specs.Steps.{nan_free, form_of}
use Rattle.block.specs.TestLaws.{every_one, every_of}
use Rattle.block.specs.FormedLaws.{Shaped, formed_parts, formed_made}
use Rattle.block.specs.SmallLaws.{passes}
use Rattle.block.proofs.PackedLaws.{not_all_zero}
use Rattle.block.specs.WordLaws.{number_formed, small_number, small_formed}
use Rattle.block_check.specs.Steps.{head_formed, lights_formed}
use Rattle.block_check.proofs.Shape.{lights_of_shape, head_of_shape, unused_of_shape, shape_made}

-- what must hold and doesn't
fails : (a b : Bool) → (a ≡ true → b ≡ true) → b ≡ false → a ≡ false
fails true b f e = sym (f refl) ∙ e
fails false b f e = refl

module _ (w : ℕ → ℕ) where
  no_form : all_zero w ≡ false → well_formed w ≡ false → form_of w ≡ NotWellFormed
  unfolding form_of
  no_form z f = rw (z, f) refl

  nan_free_form : all_zero w ≡ false → well_formed w ≡ true → nan_free w ≡ true → form_of w ≡ NanFree
  unfolding form_of
  nan_free_form z f n = rw (z, f, n) refl

  with_nan_form : all_zero w ≡ false → well_formed w ≡ true → nan_free w ≡ false → form_of w ≡ WithNan
  unfolding form_of
  with_nan_form z f n = rw (z, f, n) refl

  -- no light

  pub all_zero_lem : all_zero w ≡ true → form_of w ≡ Off
  unfolding form_of
  all_zero_lem z = rw z refl

  none_false : w 1 ≡ 0 → well_formed w ≡ false
  none_false e = fails (well_formed w) (leb 1 (w 1)) (λ h. (formed_parts w h).shape.some) (lt-leb 1 (w 1) (omega arith))

  pub not_zero : w 1 ≡ 0 → all_zero w ≡ false → form_of w ≡ NotWellFormed
  not_zero e z = no_form z (none_false e)

  -- some light

  some_word : 0 < w 1 → all_zero w ≡ false
  some_word n = not_all_zero w 1 (omega arith) (λ e. omega arith)

  pub many : 8 < w 1 → form_of w ≡ NotWellFormed
  many h =
      no_form (some_word (omega arith)) (fails (well_formed w) (leb (w 1) 8) (λ f. (formed_parts w f).shape.few) (lt-leb (w 1) 8 h))

  module _ (some : 0 < w 1) (few : w 1 ≤ 8) where
    lit : 328 - slot_at (slot_of (w 1)) ≡ 36 * (8 - w 1)
    lit = omega arith

    pub unused_words : zeros w (slot_at (slot_of (w 1))) (36 * (8 - w 1)) ≡ false → form_of w ≡ NotWellFormed
    unused_words z =
        no_form (some_word some)
        (fails (well_formed w) (zeros w (slot_at (slot_of (w 1))) (328 - slot_at (slot_of (w 1)))) (λ f. unused_of_shape w (formed_parts w f).shape) (ap (λ (n : ℕ). zeros w (slot_at (slot_of (w 1))) n) lit ∙ z))

    pub bad_head : head_formed w ≡ false → form_of w ≡ NotWellFormed
    bad_head z = no_form (some_word some) (fails (well_formed w) (head_formed w) (λ f. head_of_shape w (formed_parts w f).shape) z)

    pub bad_lights : lights_formed w (w 1) ≡ false → form_of w ≡ NotWellFormed
    bad_lights z = no_form (some_word some) (fails (well_formed w) (lights_formed w (w 1)) (λ f. lights_of_shape w (formed_parts w f).shape) z)

    module _ (unused : zeros w (slot_at (slot_of (w 1))) (36 * (8 - w 1)) ≡ true) (head : head_formed w ≡ true) (lights : lights_formed w (w 1) ≡ true) where
      shape : Shaped w
      shape =
          shape_made w (le-leb 1 (w 1) (omega arith)) (le-leb (w 1) 8 few)
          (ap (λ (n : ℕ). zeros w (slot_at (slot_of (w 1))) n) lit ∙ unused) head lights

      -- a test of the words from 36 to the end of the lit slots
      ranged : (p : ℕ → Bool) → every (4 + 36 * w 1) (λ k. p (w (36 + k))) ≡ true → (i : ℕ) → 36 ≤ i → i < slot_at (slot_of (w 1)) → p (w i) ≡ true
      ranged p h i low high =
          let e : 36 + (i - 36) ≡ i = omega arith in
          subst (λ (j : ℕ). p (w j) ≡ true) e (every_one (4 + 36 * w 1) (λ k. p (w (36 + k))) (i - 36) h (omega arith))

      widened : (p : ℕ → Bool) → every 328 (λ i. p (w i)) ≡ true → every (4 + 36 * w 1) (λ k. p (w (36 + k))) ≡ true
      widened p h = every_of (4 + 36 * w 1) (λ k. p (w (36 + k))) (λ k m. every_one 328 (λ i. p (w i)) (36 + k) h (omega arith))

      formed : every (4 + 36 * w 1) (λ k. float_formed (w (36 + k))) ≡ true → well_formed w ≡ true
      formed h = formed_made w (record { shape = shape; floats = passes w shape float_formed small_formed (ranged float_formed h) })

      numbers : every (4 + 36 * w 1) (λ k. is_number (w (36 + k))) ≡ true → every 328 (λ i. is_number (w i)) ≡ true
      numbers h = every_of 328 (λ i. is_number (w i)) (passes w shape is_number small_number (ranged is_number h))

      no_nan : every (4 + 36 * w 1) (λ k. is_number (w (36 + k))) ≡ true → form_of w ≡ NanFree
      unfolding nan_free
      no_nan h =
          nan_free_form (some_word some)
          (formed (every_of (4 + 36 * w 1) (λ k. float_formed (w (36 + k))) (λ k m. number_formed (w (36 + k)) (every_one (4 + 36 * w 1) (λ j. is_number (w (36 + j))) k h m))))
          (numbers h)

      a_nan : every (4 + 36 * w 1) (λ k. is_number (w (36 + k))) ≡ false → every (4 + 36 * w 1) (λ k. float_formed (w (36 + k))) ≡ true → form_of w ≡ WithNan
      unfolding nan_free
      a_nan n h = with_nan_form (some_word some) (formed h) (fails (every 328 (λ i. is_number (w i))) (every (4 + 36 * w 1) (λ k. is_number (w (36 + k)))) (widened is_number) n)

      odd_nan : every (4 + 36 * w 1) (λ k. float_formed (w (36 + k))) ≡ false → form_of w ≡ NotWellFormed
      odd_nan z =
          no_form (some_word some)
          (fails (well_formed w) (every (4 + 36 * w 1) (λ k. float_formed (w (36 + k)))) (λ f. widened float_formed (every_of 328 (λ i. float_formed (w i)) (formed_parts w f).floats)) z)

      floats : (a b : Bool) → a ≡ every (4 + 36 * w 1) (λ k. is_number (w (36 + k))) → b ≡ every (4 + 36 * w 1) (λ k. float_formed (w (36 + k))) → cond a NanFree (cond b WithNan NotWellFormed) ≡ form_of w
      floats true b p q = sym (no_nan (sym p))
      floats false true p q = sym (a_nan (sym p) (sym q))
      floats false false p q = sym (odd_nan (sym q))

-- past the tests of the shape: a and b are whether the floats are numbers, and formed; the code reads the count n once
pub by_floats : (w : ℕ → ℕ) (n : ℕ) → (n ≡ w 1) × (0 < n) × (n ≤ 8) → zeros w (slot_at (slot_of n)) (36 * (8 - n)) ≡ true → head_formed w ≡ true → lights_formed w n ≡ true
    → (a b : Bool) → a ≡ every (4 + 36 * n) (λ k. is_number (w (36 + k))) → b ≡ every (4 + 36 * n) (λ k. float_formed (w (36 + k))) → cond a NanFree (cond b WithNan NotWellFormed) ≡ form_of w
by_floats w n (told, some, few) unused head lights a b p q = floats w (rw told at some) (rw told at few) (rw told at unused) head (rw told at lights) a b (rw told at p) (rw told at q)
