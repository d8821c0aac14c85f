-- The class of a short float's pattern. Under the sign the patterns stand in order: zero, numbers, from (2 ^ e − 1) · 2 ^ m on infinity and then NaN, since there
-- the exponent becomes 255 and below it stays between 0 and 255. Assumes nothing.
use Rattle.std.specs.Prelude.{ℕ, zero, suc, ◌+◌, ◌-◌, ◌*◌, ◌/◌, ◌%◌, ◌^◌, ◌≤◌, ◌<◌, ◌≡◌, false, ◌&&◌, eqb}
use Rattle.std.proofs.Common.{mod-lt, mul-pos, add_comm, div-lt_iff_lt-mul, arith, sym, ap, ◌∙◌, pow_pos, pow_mono}
use Rattle.std.proofs.Math.Path.{refl, subst}
use borrow.Author.Tests.{eq-eqb, ne_eqb}
use Rattle.std.proofs.Math.Arith.{digits_div, digits_mod}
use Rattle.std.proofs.Math.Pow.{field, mod-mod-pow}
use Rattle.fields.specs.Fields.{short_exponent, short_sign, short_word}
use Rattle.fields.specs.Steps.{ShortWidths}
use Rattle.fields.specs.ShortFloatLaws.{half_power, half_power_le, exponent_lt, mantissa_lt}
use Rattle.short_float_census.specs.declared.Class.TheVariants.{Zero, Infinity, Nan, Number}
use Rattle.short_float_census.specs.Census.{class_of}

-- ---- a word's class by its bits under the sign, 7F800000 being the infinity's

pub zero_class : (w : ℕ) → w % 2147483648 ≡ 0 → class_of w ≡ Zero
unfolding class_of
zero_class w h = rw (ne_eqb (w % 2147483648 / 8388608) 255 (omega arith), eq-eqb (w % 2147483648 / 8388608) 0 (omega arith), eq-eqb (w % 8388608) 0 (omega arith)) refl

-- some digit is set, or the exponent is not 0
not_zero : (x d : ℕ) → (x ≡ 0 → d ≡ 0 → ⊥) → (eqb x 0 && eqb d 0) ≡ false
not_zero zero d h = ne_eqb d 0 (h refl)
not_zero (suc x) d h = rw (ne_eqb (suc x) 0 (omega arith)) refl

pub number_class : (w : ℕ) → 0 < w % 2147483648 → w % 2147483648 < 2139095040 → class_of w ≡ Number
unfolding class_of
number_class w h l =
    rw (
      ne_eqb (w % 2147483648 / 8388608) 255 (omega arith),
      not_zero (w % 2147483648 / 8388608) (w % 8388608) (λ x d. omega arith),
    ) refl

pub infinity_class : (w : ℕ) → w % 2147483648 ≡ 2139095040 → class_of w ≡ Infinity
unfolding class_of
infinity_class w h = rw (eq-eqb (w % 2147483648 / 8388608) 255 (omega arith), eq-eqb (w % 8388608) 0 (omega arith)) refl

pub nan_class : (w : ℕ) → 2139095040 < w % 2147483648 → class_of w ≡ Nan
unfolding class_of
nan_class w h = rw (eq-eqb (w % 2147483648 / 8388608) 255 (omega arith), ne_eqb (w % 8388608) 0 (omega arith)) refl

-- ---- a pattern's bits under the sign, i of it: they alone decide its class

module _ (m e : ℕ) (w : ShortWidths m e) where
  -- the exponent's field and the mantissa's, from the bits under the sign
  exponent_field : (n i : ℕ) → n % 2 ^ (m + e) ≡ i → n / 2 ^ m % 2 ^ e ≡ i / 2 ^ m
  exponent_field n i h = sym (field n e m) ∙ ap (λ (k : ℕ). n % 2 ^ k / 2 ^ m) (add_comm e m) ∙ ap (λ (k : ℕ). k / 2 ^ m) h

  mantissa_field : (n i : ℕ) → n % 2 ^ (m + e) ≡ i → n % 2 ^ m ≡ i % 2 ^ m
  mantissa_field n i h = sym (mod-mod-pow n e m) ∙ ap (λ (k : ℕ). n % 2 ^ k % 2 ^ m) (add_comm e m) ∙ ap (λ (k : ℕ). k % 2 ^ m) h

  -- the word without its sign, of a pattern that is no zero
  magnitude : (n i : ℕ) → n % 2 ^ (m + e) ≡ i → 0 < i → short_word m e n % 2147483648 ≡ short_exponent e (i / 2 ^ m) * 8388608 + i % 2 ^ m * 2 ^ (23 - m)
  unfolding short_word short_sign
  magnitude n i h p =
      let x : n / 2 ^ m % 2 ^ e ≡ i / 2 ^ m = exponent_field n i h in
      let d : n % 2 ^ m ≡ i % 2 ^ m = mantissa_field n i h in
      let small : i / 2 ^ m < 2 ^ e = subst (λ (k : ℕ). k < 2 ^ e) x (mod-lt (n / 2 ^ m) (pow_pos e)) in
      let high : short_exponent e (i / 2 ^ m) < 256 = exponent_lt e w.e_low w.e_high (i / 2 ^ m) small in
      let low : i % 2 ^ m * 2 ^ (23 - m) < 8388608 = subst (λ (k : ℕ). k * 2 ^ (23 - m) < 8388608) d (mantissa_lt m n w.m_high) in
      rw (h, ne_eqb i 0 (λ z. omega arith), x, d) (omega arith)

  pub zero_pattern : (n : ℕ) → n % 2 ^ (m + e) ≡ 0 → class_of (short_word m e n) ≡ Zero
  unfolding short_word short_sign
  zero_pattern n h = rw (eq-eqb (n % 2 ^ (m + e)) 0 h) (zero_class _ (omega arith))

  -- below all ones the exponent is neither 0 nor 255
  number_exponent : (x : ℕ) → x < 2 ^ e - 1 → (0 < short_exponent e x) × (short_exponent e x < 255)
  unfolding short_exponent
  number_exponent x h = rw (ne_eqb x (2 ^ e - 1) (λ z. omega arith)) (omega (arith, half_power e w.e_low, half_power_le e w.e_high))

  pub number_pattern : (n i : ℕ) → n % 2 ^ (m + e) ≡ i → 0 < i → i < (2 ^ e - 1) * 2 ^ m → class_of (short_word m e n) ≡ Number
  number_pattern n i h p l =
      let is : short_word m e n % 2147483648 ≡ short_exponent e (i / 2 ^ m) * 8388608 + i % 2 ^ m * 2 ^ (23 - m) = magnitude n i h p in
      let some = number_exponent (i / 2 ^ m) ((div-lt_iff_lt-mul (pow_pos m)).1 l) in
      let low : i % 2 ^ m * 2 ^ (23 - m) < 8388608 = mantissa_lt m i w.m_high in
      number_class (short_word m e n) (omega arith) (omega arith)

  all_ones : short_exponent e (2 ^ e - 1) ≡ 255
  unfolding short_exponent
  all_ones = rw (eq-eqb (2 ^ e - 1) (2 ^ e - 1) refl) refl

  -- with mantissa j under an exponent of all ones
  module _ (n j : ℕ) (h : n % 2 ^ (m + e) ≡ (2 ^ e - 1) * 2 ^ m + j) (k : j < 2 ^ m) where
    ones_magnitude : short_word m e n % 2147483648 ≡ 2139095040 + j * 2 ^ (23 - m)
    ones_magnitude =
        let i = (2 ^ e - 1) * 2 ^ m + j in
        let four : 4 ≤ 2 ^ e = pow_mono {i = 2} {j = e} w.e_low in
        let p : 0 < (2 ^ e - 1) * 2 ^ m = mul-pos (omega arith) (pow_pos m) in
        magnitude n i h (omega arith)
        ∙ ap (λ (x : ℕ). short_exponent e x * 8388608 + i % 2 ^ m * 2 ^ (23 - m)) (digits_div (2 ^ e - 1) k)
        ∙ ap (λ (x : ℕ). x * 8388608 + i % 2 ^ m * 2 ^ (23 - m)) all_ones
        ∙ ap (λ (d : ℕ). 2139095040 + d * 2 ^ (23 - m)) (digits_mod (2 ^ e - 1) k)

    pub infinity_pattern : j ≡ 0 → class_of (short_word m e n) ≡ Infinity
    infinity_pattern z = infinity_class (short_word m e n) (ones_magnitude ∙ ap (λ (d : ℕ). 2139095040 + d * 2 ^ (23 - m)) z ∙ zero_digits (2 ^ (23 - m)))
      where
        zero_digits : (p : ℕ) → 2139095040 + 0 * p ≡ 2139095040
        zero_digits p = omega arith

    pub nan_pattern : 0 < j → class_of (short_word m e n) ≡ Nan
    nan_pattern p =
        let d : 0 < j * 2 ^ (23 - m) = mul-pos p (pow_pos (23 - m)) in
        let is : short_word m e n % 2147483648 ≡ 2139095040 + j * 2 ^ (23 - m) = ones_magnitude in
        nan_class (short_word m e n) (omega arith)
