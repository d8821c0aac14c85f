-- The pattern of r * 2 ^ K units is K * 2 ^ 23 + r, for an r of 24 digits, or of fewer where K is 0. This is how `to_bits` writes a value, and what it writes is read back.
-- Assumes nothing.
use mathlib.Core.Path.{◌≡◌, refl, sym, ap, ◌∙◌, subst}
use Prim.Native.Nat.{ℕ, ◌+◌, ◌-◌, ◌*◌, ◌/◌, ◌%◌, ◌^◌, ◌≤◌, ◌<◌}
use native.Mathlib.Nat.{le_trans, le_of_eq, le_of_lt, lt_of_lt_of_le, lt_of_not-le, not-le_of_lt, mul-one, mul-pos, mul-le-mul_right, mul-div_cancel}
use native.Mathlib.Omega.{arith}
use mathlib.Core.Bool.{Bool, true, false, not}
use lib.IntN.{ℤ}
use lib.Dec.{T, ltb, ltb→lt, not_T, lit<}
use lib.Pow.{pow-add, pow_pos, pow_mono, shl_lt}
use lib.Ieee.{Float, nan, inf, fin, binary32, size, units, of_bits, to_bits, nan_bits}
use lib.Ieee.Digits.{size-lt, size-le}
use lib.Ieee.Exact.{HasValue, units_val}
use lib.Ieee.Bits.{nan_bits_above, of_bits-to_bits}
use lib.Ieee.Positive.{positive, positive_of_value}
use Rattle.root.specs.Root.{in_units}
use Rattle.root.specs.RootLaws.{units_fits}
use Rattle.root.specs.UnitLaws.{in_units_lem}

-- ---- what `to_bits` writes
abbrev pub bits : ℕ → ℕ
bits n = 0 + (size n - 24) * 8388608 + n / 2 ^ (size n - 24)

pub bits_are : (m : ℕ) (e : ℤ) → to_bits binary32 (fin false m e) ≡ bits (in_units (fin false m e))
unfolding to_bits
bits_are m e = refl

pub positive_bits : (x : Float) → T (positive x) → to_bits binary32 x ≡ bits (in_units x)
positive_bits nan p = absurd p
positive_bits (inf s) p = absurd p
positive_bits (fin true m e) p = absurd p
positive_bits (fin false m e) p = bits_are m e

-- ---- r * 2 ^ K units
pub units_value : (K r : ℕ) → r < 2 ^ 24 → K < 254 → HasValue (units binary32 false r K) false (r * 2 ^ K) (2 ^ 149)
units_value K r h k = units_val binary32 false r K (lt_of_lt_of_le (shl_lt 24 K h) (pow_mono {i = 24 + K} {j = 277} (omega arith)))

pub units_positive : (K r : ℕ) → 0 < r → r < 2 ^ 24 → K < 254 → T (positive (units binary32 false r K))
units_positive K r p h k = positive_of_value (units binary32 false r K) (r * 2 ^ K) (2 ^ 149) (units_value K r h k) (mul-pos p (pow_pos K))

pattern : (K r : ℕ) → 0 < r → r < 2 ^ 24 → K < 254 → size (r * 2 ^ K) - 24 ≡ K → units binary32 false r K ≡ of_bits binary32 (K * 8388608 + r)
pattern K r p h k s =
    let x = units binary32 false r K in
    sym (of_bits-to_bits binary32 x (units_fits binary32 r K (le_of_lt h)))
    ∙ ap (of_bits binary32)
    (positive_bits x (units_positive K r p h k)
    ∙ ap bits (in_units_lem x false (r * 2 ^ K) (units_value K r h k))
    ∙ ap (λ (z : ℕ). 0 + z * 8388608 + r * 2 ^ K / 2 ^ z) s
    ∙ ap (λ (z : ℕ). 0 + K * 8388608 + z) (mul-div_cancel r (pow_pos K))
    ∙ none (K * 8388608) r)
  where
    none : (a b : ℕ) → 0 + a + b ≡ a + b
    none a b = omega arith

-- the digits that are dropped of a number of 24 + K
pub dropped : (n K : ℕ) → 2 ^ (23 + K) ≤ n → n < 2 ^ (24 + K) → size n - 24 ≡ K
dropped n K lo hi =
    let a : size n ≤ 24 + K = size-le n (24 + K) hi in
    let b : 23 + K < size n = lt_of_not-le (λ (g : size n ≤ 23 + K). not-le_of_lt (lt_of_lt_of_le (size-lt n) (pow_mono g)) lo) in
    omega arith

pub normal : (K r : ℕ) → 2 ^ 23 ≤ r → r < 2 ^ 24 → K < 254 → units binary32 false r K ≡ of_bits binary32 (K * 8388608 + r)
normal K r lo hi k = pattern K r (omega arith) hi k (dropped (r * 2 ^ K) K (le_trans (le_of_eq (pow-add 2 23 K)) (mul-le-mul_right (2 ^ K) lo)) (shl_lt 24 K hi))

subnormal : (r : ℕ) → 0 < r → r < 2 ^ 24 → units binary32 false r 0 ≡ of_bits binary32 r
subnormal r p h =
    let s : size r ≤ 24 = size-le r 24 h in
    let z : size r - 24 ≡ 0 = omega arith in
    pattern 0 r p h (lit< tt) (ap (λ (z : ℕ). size z - 24) (mul-one r) ∙ z) ∙ ap (of_bits binary32) (none r)
  where
    none : (b : ℕ) → 0 + b ≡ b
    none b = omega arith

-- ---- a pattern in units
pub normal_units : (b : ℕ) → 8388608 ≤ b → b < 2139095040 → in_units (of_bits binary32 b) ≡ (8388608 + b % 8388608) * 2 ^ (b / 8388608 - 1)
normal_units b h k =
    let r = 8388608 + b % 8388608 in
    let K = b / 8388608 - 1 in
    let e : K * 8388608 + r ≡ b = omega arith in
    let hi : r < 16777216 = omega arith in
    let K< : K < 254 = omega arith in
    ap in_units (ap (of_bits binary32) (sym e) ∙ sym (normal K r (omega arith) hi K<)) ∙ in_units_lem (units binary32 false r K) false (r * 2 ^ K) (units_value K r hi K<)

pub subnormal_units : (b : ℕ) → 0 < b → b < 8388608 → in_units (of_bits binary32 b) ≡ b
subnormal_units b p h =
    let hi : b < 16777216 = omega arith in
    ap in_units (sym (subnormal b p hi)) ∙ in_units_lem (units binary32 false b 0) false (b * 1) (units_value 0 b hi (lit< tt)) ∙ mul-one b

-- ---- a pattern below the infinity's is no NaN's
pub no_nan : (r : ℕ) → r < 2139095040 → T (not (nan_bits binary32 r))
no_nan r h =
    subst (λ (b : Bool). T (not b)) (sym (nan_bits_above binary32 r))
    (not_T (ltb 2139095040 (r % 2147483648)) (λ (t : T (ltb 2139095040 (r % 2147483648))). no (ltb→lt 2139095040 (r % 2147483648) t)))
  where
    no : 2139095040 < r % 2147483648 → ⊥
    no k = omega arith
