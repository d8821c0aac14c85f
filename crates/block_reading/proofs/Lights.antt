-- The lights as they are filled in, slot by slot: the first s are the definition's and the rest are blank. Once s has reached the count nothing is missing,
-- since the definition's lights are blank beyond it. Assumes nothing.
use Prim.Native.Nat.{ℕ, zero, suc, ◌+◌, ◌≤◌, ◌<◌, min}
use native.Mathlib.Omega.{arith}
use mathlib.Core.Path.{◌≡◌, refl, sym}
use mathlib.Core.Bool.{Bool, true, false, cond}
use mathlib.Core.List.{List, [], ◌∷◌, map}
use lib.Dec.{ltb}
use lib.ListN.{set}
use borrow.Author.Tests.{ltb-true, ltb-false, lt-ltb, le-ltb}
use Rattle.lighting.specs.declared.Light.{Light}
use Rattle.lighting.specs.Lighting.{blank_light, slot_of}
use Rattle.block.specs.Block.{from, slot_at, block_light, block_slot_light, block_lights}

module _ (w : ℕ → ℕ) where
  abbrev filled : ℕ → ℕ → Light
  filled s k = cond (ltb k s) (block_slot_light w (slot_of k)) blank_light

  abbrev pub first_lights : ℕ → List Light
  first_lights s = map (filled s) (0 ∷ 1 ∷ 2 ∷ 3 ∷ 4 ∷ 5 ∷ 6 ∷ 7 ∷ [])

  pub lit_slot : (s : ℕ) → s < w 1 → block_light (from w (slot_at (slot_of s))) ≡ block_slot_light w (slot_of s)
  unfolding block_slot_light
  lit_slot s h = rw (lt-ltb s (w 1) h) refl

  pub one_more : (s : ℕ) → s < 8 → set (first_lights s) s (block_slot_light w (slot_of s)) ≡ first_lights (s + 1)
  one_more zero h = refl
  one_more (suc zero) h = refl
  one_more (suc (suc zero)) h = refl
  one_more (suc (suc (suc zero))) h = refl
  one_more (suc (suc (suc (suc zero)))) h = refl
  one_more (suc (suc (suc (suc (suc zero))))) h = refl
  one_more (suc (suc (suc (suc (suc (suc zero)))))) h = refl
  one_more (suc (suc (suc (suc (suc (suc (suc zero))))))) h = refl
  one_more (suc (suc (suc (suc (suc (suc (suc (suc s)))))))) h = absurd (omega arith)

  beyond : (k : ℕ) → w 1 ≤ k → block_slot_light w (slot_of k) ≡ blank_light
  unfolding block_slot_light
  beyond k h = rw (le-ltb k (w 1) h) refl

  kept : (s k : ℕ) → w 1 ≤ s → filled s k ≡ block_slot_light w (slot_of k)
  kept s k h = go (ltb k s) refl
    where
      go : (b : Bool) → ltb k s ≡ b → cond b (block_slot_light w (slot_of k)) blank_light ≡ block_slot_light w (slot_of k)
      go true e = refl
      go false e = let p : s ≤ k = ltb-false k s e in sym (beyond k (omega arith))

  all_lit : (s : ℕ) → w 1 ≤ s → first_lights s ≡ block_lights w
  unfolding block_lights
  all_lit s h = rw (kept s 0 h, kept s 1 h, kept s 2 h, kept s 3 h, kept s 4 h, kept s 5 h, kept s 6 h, kept s 7 h) refl

  all_eight : first_lights 8 ≡ block_lights w
  unfolding block_lights
  all_eight = refl

  -- up to the count, or the eighth
  pub all_least : (s : ℕ) → s ≡ min (w 1) 8 → first_lights s ≡ block_lights w
  all_least s e = go (ltb s 8) refl
    where
      go : (b : Bool) → ltb s 8 ≡ b → first_lights s ≡ block_lights w
      go true h = let p : s < 8 = ltb-true s 8 h in all_lit s (omega arith)
      go false h = let p : 8 ≤ s = ltb-false s 8 h in let q : s ≡ 8 = omega arith in rw q all_eight
