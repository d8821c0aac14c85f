-- `held` differs from the clamp at NaN and at numbers that are not above 0, and there both channels are 0. What is multiplied is at most 1, so the product is at most 255.
-- Assumes nothing.
use mathlib.Core.Path.{◌≡◌, refl, sym, ap, ◌∙◌}
use mathlib.Core.Bool.{Bool, true, false, cond, true≢false}
use Prim.Native.Nat.{ℕ, zero, suc, ◌+◌, ◌*◌, ◌≤◌}
use native.Mathlib.Nat.{mul-pos, zero-lt-suc}
use native.Mathlib.Omega.{arith}
use borrow.Author.Tests.{lt-ltb, ltb-false}
use lib.Dec.{T, ltb}
use lib.Ieee.{Float, nan, inf, fin, binary32, up, down, round, mul, lt, fits, of_bits, to_unsigned}
use lib.Ieee.Fits.{down_pos}
use Rattle.binary32.specs.Binary32.{float0, float1, float255, clamp_of, quantized_of}
use Rattle.binary32.specs.Steps.{held_of, under_byte}
use Rattle.binary32.specs.CompareLaws.{lt_asym, zero_is, below_one}
use Rattle.binary32.specs.HeldLaws.{held_cases}
use Rattle.binary32.specs.ByteLaws.{round_under, round_minus, minus_unsigned}

-- ---- the product is below 256
of_0 : T (under_byte (mul binary32 float0 float255))
unfolding under_byte mul of_bits
of_0 = tt

of_1 : T (under_byte (mul binary32 float1 float255))
unfolding under_byte mul of_bits
of_1 = tt

of_positive : (x : Float) → lt float0 x ≡ true → lt float1 x ≡ false → T (under_byte (mul binary32 x float255))
unfolding mul lt of_bits
of_positive nan p q = absurd (true≢false (sym p))
of_positive (inf true) p q = absurd (true≢false (sym p))
of_positive (inf false) p q = absurd (true≢false q)
of_positive (fin true m e) p q = absurd (true≢false (sym p))
of_positive (fin false m e) p q = round_under (m * up e * 255) (down e * 1) (mul-pos (down_pos e) (zero-lt-suc 0)) (most (m * up e) (down e) (ltb-false (1 * 1 * down e) (m * up e * 1) q))
  where
    most : (a d : ℕ) → a * 1 ≤ 1 * 1 * d → a * 255 ≤ 255 * (d * 1)
    most a d h = omega arith

pub product_under : (x : Float) → T (under_byte (mul binary32 (held_of x float0 float1) float255))
product_under x = held_cases (λ (y : Float). T (under_byte (mul binary32 y float255))) x float0 float1 of_0 of_1 (of_positive x)

-- ---- what is not above 0 gives 0
not_above : (x : Float) → T (fits binary32 x) → lt float0 x ≡ false → quantized_of x ≡ 0
unfolding quantized_of clamp_of to_unsigned mul lt of_bits
not_above nan p h = refl
not_above (inf true) p h = refl
not_above (inf false) p h = absurd (true≢false h)
not_above (fin true m e) p h = go (ltb 0 (m * up e * 1 + 0 * 1 * down e))
  where
    go : (b : Bool) → to_unsigned 8 (mul binary32 (cond (lt float1 (cond b float0 (fin true m e))) float1 (cond b float0 (fin true m e))) float255) ≡ 0
    go true = refl
    go false = minus_unsigned (round binary32 true (m * up e * 255) (down e * 1)) (round_minus true (m * up e * 255) (down e * 1))
not_above (fin false zero e) p h = ap quantized_of (zero_is false e p)
not_above (fin false (suc m) e) p h = absurd (true≢false (sym (lt-ltb (0 * 1 * down e) (suc m * up e * 1) (below_one m e)) ∙ h))

held_0 : to_unsigned 8 (mul binary32 (cond (lt float1 float0) float1 float0) float255) ≡ 0
unfolding to_unsigned mul lt of_bits
held_0 = refl

pub same_channel : (x : Float) → T (fits binary32 x) → to_unsigned 8 (mul binary32 (held_of x float0 float1) float255) ≡ quantized_of x
same_channel x p = go (lt float0 x) refl
  where
    go : (b : Bool) → lt float0 x ≡ b → to_unsigned 8 (mul binary32 (held_of x float0 float1) float255) ≡ quantized_of x
    go true e = unfold held_of quantized_of clamp_of in simp (e, lt_asym float0 x e)
    go false e = unfold held_of in (simp e held_0 ∙ sym (not_above x p e))
