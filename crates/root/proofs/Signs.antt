-- The cases of `root` by its tests against zero: a value above zero is the infinity or has a pattern below the infinity's, since its units are below 2 ^ 277; one below zero has no root;
-- and what is neither, a zero or a NaN, is its own root. Assumes nothing.
use mathlib.Core.Path.{◌≡◌, refl, sym, ap, ◌∙◌, subst}
use mathlib.Core.Logic.{inl, inr}
use Prim.Native.Nat.{ℕ, zero, suc, ◌+◌, ◌-◌, ◌*◌, ◌/◌, ◌^◌, ◌≤◌, ◌<◌, zero-le}
use native.Mathlib.Nat.{lt_of_le_of_lt, not-le_of_lt, le_of_eq, zero-lt-suc, zero-mul, mul-pos}
use native.Mathlib.Omega.{arith}
use mathlib.Core.Bool.{true, false, not, true≢false}
use lib.IntN.{ℤ}
use lib.Dec.{T, ltb, ltb→lt, lt→ltb}
use lib.Ieee.{Float, nan, inf, fin, binary32, up, down, size, lt, div, fits, is_nan, of_bits, to_bits}
use lib.Ieee.Digits.{size-le}
use lib.Ieee.Fits.{up_pos, kept-lt}
use lib.Ieee.Bits.{is_true, of_bits-to_bits}
use lib.Ieee.Positive.{positive, above, first_pos}
use Rattle.root.specs.Root.{in_units, root_units, root_of}
use Rattle.root.specs.RootLaws.{root_not_below}
use Rattle.root.specs.UnitLaws.{units_below}
use Rattle.root.proofs.Squares.{either}

-- ---- the pattern of a value above zero
small_bits : (n : ℕ) → n < 2 ^ 277 → 0 + (size n - 24) * 8388608 + n / 2 ^ (size n - 24) < 2139095040
small_bits n h = let a = size-le n 277 h in let b = kept-lt 24 n in omega arith

some_bits : (x : Float) → T (fits binary32 x) → T (positive x) → 0 < to_bits binary32 x
unfolding of_bits
some_bits x f p =
    elim (either (to_bits binary32 x) 0) [
      | inl h ↦ absurd (subst (λ (w : Float). T (positive w)) (sym (of_bits-to_bits binary32 x f) ∙ ap (of_bits binary32) (least (to_bits binary32 x) h)) p)
      | inr h ↦ h
    ]
  where
    least : (b : ℕ) → b ≤ 0 → b ≡ 0
    least b h = omega arith

finite_bits : (x : Float) → T (fits binary32 x) → T (positive x) → to_bits binary32 x < 2139095040
unfolding to_bits
finite_bits nan f p = absurd p
finite_bits (inf s) f p = absurd p
finite_bits (fin true m e) f p = absurd p
finite_bits (fin false m e) f p = small_bits (in_units (fin false m e)) (units_below false m e f)

pub in_range_lem : (x : Float) → T (fits binary32 x) → T (positive x) → (0 < to_bits binary32 x) × (to_bits binary32 x < 2139095040)
in_range_lem x f p = (some_bits x f p, finite_bits x f p)

-- ---- above zero
pub above_zero : (x : Float) → lt (of_bits binary32 0) x ≡ true → T (above x)
unfolding lt of_bits
above_zero nan h = absurd (true≢false (sym h))
above_zero (inf t) h = subst T (sym h) tt
above_zero (fin true n d) h = absurd (true≢false (sym h))
above_zero (fin false n d) h =
    lt→ltb 0 n (first_pos n (up d) (first_pos (n * up d) 1 (lt_of_le_of_lt zero-le (ltb→lt (0 * down d) (n * up d * 1) (subst T (sym h) tt)))))

pub number : (x : Float) → T (above x) → T (not (is_nan x))
unfolding is_nan
number nan a = absurd a
number (inf s) a = tt
number (fin s m e) a = tt

pub finite_above : (x : Float) → T (above x) → to_bits binary32 x < 2139095040 → T (positive x)
unfolding to_bits
finite_above nan a h = absurd a
finite_above (inf true) a h = absurd a
finite_above (inf false) a h = absurd (not-le_of_lt h (le_of_eq refl))
finite_above (fin true m e) a h = absurd a
finite_above (fin false m e) a h = a

pub root_positive : (x : Float) → T (positive x) → root_of x ≡ root_units binary32 (in_units x)
unfolding root_of
root_positive nan p = absurd p
root_positive (inf s) p = absurd p
root_positive (fin true m e) p = absurd p
root_positive (fin false zero e) p = absurd p
root_positive (fin false (suc m) e) p = refl

pub root_infinity : (x : Float) → T (fits binary32 x) → T (above x) → 2139095040 ≤ to_bits binary32 x → x ≡ root_of x
unfolding root_of
root_infinity nan f a h = absurd a
root_infinity (inf true) f a h = absurd a
root_infinity (inf false) f a h = refl
root_infinity (fin true m e) f a h = absurd a
root_infinity (fin false m e) f a h = absurd (not-le_of_lt (finite_bits (fin false m e) f a) h)

-- ---- below zero
pub quotient : div binary32 (of_bits binary32 0) (of_bits binary32 0) ≡ nan
unfolding div of_bits
quotient = refl

-- `root_not_below` says of what is its own root that it is not below zero
pub root_below : (x : Float) → lt x (of_bits binary32 0) ≡ true → root_of x ≡ nan
unfolding lt of_bits root_of
root_below nan h = refl
root_below (inf true) h = refl
root_below (inf false) h = absurd (true≢false (sym h))
root_below (fin s zero e) h = absurd (true≢false (sym h ∙ root_not_below (fin s zero e)))
root_below (fin true (suc m) e) h = refl
root_below (fin false (suc m) e) h = absurd (no (ltb→lt (suc m * up e * 1) (0 * down e) (subst T (sym h) tt)) (zero-mul (down e)))
  where
    no : suc m * up e * 1 < 0 * down e → 0 * down e ≡ 0 → ⊥
    no l z = omega arith

-- ---- neither
size_pos : (m : ℕ) (e : ℤ) → 0 < suc m * up e * 1
size_pos m e = mul-pos (mul-pos (zero-lt-suc m) (up_pos e)) (zero-lt-suc 0)

pub root_neither : (x : Float) → lt (of_bits binary32 0) x ≡ false → lt x (of_bits binary32 0) ≡ false → x ≡ root_of x
unfolding lt of_bits root_of
root_neither nan h k = refl
root_neither (inf true) h k = absurd (true≢false k)
root_neither (inf false) h k = absurd (true≢false h)
root_neither (fin s zero e) h k = refl
root_neither (fin true (suc m) e) h k = absurd (true≢false (sym (is_true (ltb 0 (suc m * up e * 1 + 0 * down e)) (lt→ltb 0 (suc m * up e * 1 + 0 * down e) (more (size_pos m e)))) ∙ k))
  where
    more : 0 < suc m * up e * 1 → 0 < suc m * up e * 1 + 0 * down e
    more p = omega arith
root_neither (fin false (suc m) e) h k = absurd (true≢false (sym (is_true (ltb (0 * down e) (suc m * up e * 1)) (lt→ltb (0 * down e) (suc m * up e * 1) (more (zero-mul (down e)) (size_pos m e)))) ∙ h))
  where
    more : 0 * down e ≡ 0 → 0 < suc m * up e * 1 → 0 * down e < suc m * up e * 1
    more z p = omega arith
