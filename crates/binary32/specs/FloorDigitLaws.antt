-- Floor by the value: of a / c it is a / c cut to a whole number, or one more where a number below zero has a rest. At each of the code's returns this is what the code makes of the digits.
-- Assumes nothing.
use Rattle.std.specs.Prelude.{◌≡◌, Bool, not, ◌&&◌, cond, ℕ, zero, suc, ◌+◌, ◌-◌, ◌*◌, ◌/◌, ◌%◌, ◌^◌, ◌≤◌, ◌<◌, min, pos, T, leb, eqb, Float}
use Rattle.std.proofs.Math.Path.{refl, sym, ap}
use Rattle.std.proofs.Common.{◌∙◌, subst, inl, inr, true≢false, mul-one, mul_assoc, mul_right_comm, div-one, zero-lt-suc, lt_of_le_of_lt, le_of_lt, div-le_self, eq-zero-or-pos, arith, le-leb, pow-add, pow_pos}
use Rattle.std.proofs.Math.Bool.{true, false}
use Rattle.std.proofs.Math.Nat.{mod-one, eq_of_mul-eq-mul_right}
use Rattle.std.proofs.lemmas.Bool.{lt-leb}
use Rattle.std.specs.Float.{nan, inf, fin}
use Rattle.std.specs.Float.Ieee.{binary32, up, down, odd, round, neg, eq, of_int, fits, of_fields, of_bits}
use Rattle.std.specs.Float.Ieee.Bits.{of_bits-fits}
use Rattle.std.specs.Float.Ieee.Exact.{HasValue, odd_sign}
use Rattle.std.specs.Float.Ieee.Fits.{down_pos}
use Rattle.std.specs.Float.Ieee.Nearest.{div_same}
use Rattle.binary32.specs.ValueLaws.{round_own}
use Rattle.binary32.specs.Binary32.{floor_of}
use Rattle.binary32.specs.CompareLaws.{zero_of, eq_sym}
use Rattle.binary32.specs.CastLaws.{neg_round}
use Rattle.binary32.specs.DigitLaws.{field, digits, few, of_bits_is, Cut, cut, moved, left_over, rest_same}

-- ---- by the value
abbrev part : Bool → ℕ → ℕ → ℕ
part s a c = cond (s && not (eqb (a % c) 0)) (a / c + 1) (a / c)

pub floor_value : (x : Float) (s : Bool) (a c : ℕ) → 0 < c → HasValue x s a c → floor_of x ≡ round binary32 s (part s a c) 1
unfolding floor_of
floor_value nan s a c h v = absurd v
floor_value (inf t) s a c h v = absurd v
floor_value (fin t m e) s a c h v =
    ap (λ (q : ℕ). round binary32 t (cond (t && not (eqb (m * up e % down e) 0)) (q + 1) q) 1) (div_same (m * up e) (down e) a c (down_pos e) h v.1)
    ∙ ap (λ (z : Bool). round binary32 t (cond (t && not z) (a / c + 1) (a / c)) 1) (rest_same (m * up e) (down e) a c (down_pos e) h v.1)
    ∙ ap (λ (b : Bool). round binary32 b (part b a c) 1) v.0

-- a whole number is its own floor
whole_part_lem : (s : Bool) (n : ℕ) → part s n 1 ≡ n
whole_part_lem s n = ap (λ (z : ℕ). cond (s && not (eqb z 0)) (n / 1 + 1) (n / 1)) (mod-one n) ∙ none s ∙ div-one n
  where
    none : (s : Bool) → cond (s && false) (n / 1 + 1) (n / 1) ≡ n / 1
    none true = refl
    none false = refl

pub stays : (x : Float) (s : Bool) (n : ℕ) → T (fits binary32 x) → HasValue x s n 1 → floor_of x ≡ x
stays x s n p v = floor_value x s n 1 (zero-lt-suc 0) v ∙ ap (λ (z : ℕ). round binary32 s z 1) (whole_part_lem s n) ∙ round_own x s n 1 p (zero-lt-suc 0) v

-- ---- NaN and the zeros
pub floor_nan : floor_of nan ≡ nan
unfolding floor_of
floor_nan = refl

zero_stays : (s : Bool) → floor_of (fin s 0 (pos 0)) ≡ fin s 0 (pos 0)
unfolding floor_of round
zero_stays true = refl
zero_stays false = refl

pub floor_zero : (x : Float) → T (fits binary32 x) → eq x (of_bits binary32 0) ≡ true → floor_of x ≡ x
unfolding of_bits
floor_zero x p h = let z = zero_of false x p (eq_sym (fin false 0 (pos 0)) x ∙ h) in ap floor_of z.1 ∙ zero_stays z.0 ∙ sym z.1

-- the pattern of any other number has a bit under the sign
zero_fields : (s : Bool) → eq (of_fields binary32 s 0 0) (of_bits binary32 0) ≡ true
unfolding of_fields eq of_bits
zero_fields true = refl
zero_fields false = refl

pub some_bit : (b : ℕ) → eq (of_bits binary32 b) (of_bits binary32 0) ≡ false → 0 < b % 2147483648
some_bit b h = elim (eq-zero-or-pos (b % 2147483648)) [
  | inl z ↦
      absurd (true≢false (sym (zero_fields (leb 2147483648 b))
      ∙ ap (λ (v : Float). eq v (of_bits binary32 0))
      (ap (λ (x : ℕ). of_fields binary32 (leb 2147483648 b) x 0) (sym (none b z)) ∙ ap (of_fields binary32 (leb 2147483648 b) (field b)) (sym (no_digits b z)) ∙ sym (of_bits_is b))
      ∙ h))
  | inr p ↦ p
]
  where
    none : (b : ℕ) → b % 2147483648 ≡ 0 → field b ≡ 0
    none b z = omega arith

    no_digits : (b : ℕ) → b % 2147483648 ≡ 0 → b % 8388608 ≡ 0
    no_digits b z = omega arith

-- ---- no digit behind the point: an exponent's field of 150 or more
pub unscaled : (x : Float) (s : Bool) (a k : ℕ) → 0 < k → HasValue x s (a * k) k → HasValue x s a 1
unscaled nan s a k h v = v
unscaled (inf t) s a k h v = v
unscaled (fin t m e) s a k h v = (v.0, mul-one (m * up e) ∙ eq_of_mul-eq-mul_right k h (m * up e) (a * down e) (v.1 ∙ mul_right_comm a k (down e)))

large_odd : (s : Bool) (M x : ℕ) → 149 ≤ x → HasValue (odd 24 s M x 149) s (M * 2 ^ (x - 149)) 1
large_odd s M x h =
    unscaled (odd 24 s M x 149) s (M * 2 ^ (x - 149)) (2 ^ 149) (pow_pos 149)
    (subst (λ (z : ℕ). HasValue (odd 24 s M x 149) s z (2 ^ 149))
    (ap (λ (z : ℕ). M * 2 ^ z) (sym (back x h)) ∙ ap (λ (z : ℕ). M * z) (pow-add 2 (x - 149) 149) ∙ sym (mul_assoc M (2 ^ (x - 149)) (2 ^ 149)))
    (odd_sign 24 s M x 149))
  where
    back : (x : ℕ) → 149 ≤ x → x - 149 + 149 ≡ x
    back x h = omega arith

large_fields : (s : Bool) (x t : ℕ) → 150 ≤ x → T (fits binary32 (of_fields binary32 s x t)) → floor_of (of_fields binary32 s x t) ≡ of_fields binary32 s x t
unfolding of_fields
large_fields s zero t h p = absurd (none h)
  where
    none : 150 ≤ 0 → ⊥
    none h = omega arith
large_fields s (suc x) t h p = go (eqb (suc x) 255) (eqb t 0) p
  where
    enough : 150 ≤ suc x → 149 ≤ x
    enough h = omega arith

    go : (a b : Bool) → T (fits binary32 (cond a (cond b (inf s) nan) (odd 24 s (8388608 + t) x 149))) → floor_of (cond a (cond b (inf s) nan) (odd 24 s (8388608 + t) x 149)) ≡ cond a (cond b (inf s) nan) (odd 24 s (8388608 + t) x 149)
    go true true q = unfold floor_of in refl
    go true false q = floor_nan
    go false b q = stays (odd 24 s (8388608 + t) x 149) s ((8388608 + t) * 2 ^ (x - 149)) q (large_odd s (8388608 + t) x (enough h))

pub floor_large : (b : ℕ) → 150 ≤ field b → floor_of (of_bits binary32 b) ≡ of_bits binary32 b
floor_large b h = ap floor_of (of_bits_is b) ∙ large_fields (leb 2147483648 b) (field b) (b % 8388608) h (subst (λ (v : Float). T (fits binary32 v)) (of_bits_is b) (of_bits-fits binary32 b)) ∙ sym (of_bits_is b)

-- ---- the three other returns. n is what is left of the digits
abbrev pub kept : ℕ → ℕ → ℕ
kept b s = digits b / 2 ^ s

pub kept_few : (b s : ℕ) → kept b s < 16777216
kept_few b s = lt_of_le_of_lt (div-le_self (digits b) (2 ^ s)) (few b)

floor_cut : (b : ℕ) (c : Cut b) → floor_of (of_bits binary32 b) ≡ round binary32 (leb 2147483648 b) (part (leb 2147483648 b) c.units (2 ^ 149)) 1
floor_cut b c = floor_value (of_bits binary32 b) (leb 2147483648 b) c.units (2 ^ 149) (pow_pos 149) c.value

module _ (b s : ℕ) (h : field b < 150) (e : s ≡ min (150 - field b) 31) where
  whole_digits : (c : Cut b) → c.units / 2 ^ 149 ≡ kept b s
  whole_digits c = c.whole ∙ sym (ap (λ (z : ℕ). digits b / 2 ^ z) e ∙ moved b (150 - field b))

  pub floor_plus : b < 2147483648 → of_int binary32 (pos (kept b s)) ≡ floor_of (of_bits binary32 b)
  unfolding of_int
  floor_plus p =
      let c = cut b (le_of_lt h) in
      sym (floor_cut b c ∙ ap (λ (t : Bool). round binary32 t (part t c.units (2 ^ 149)) 1) (lt-leb 2147483648 b p) ∙ ap (λ (n : ℕ). round binary32 false n 1) (whole_digits c))

  below_zero : 2147483648 ≤ b → (c : Cut b) → floor_of (of_bits binary32 b) ≡ round binary32 true (cond (not (eqb (c.units % 2 ^ 149) 0)) (kept b s + 1) (kept b s)) 1
  below_zero p c =
      floor_cut b c
      ∙ ap (λ (t : Bool). round binary32 t (part t c.units (2 ^ 149)) 1) (le-leb 2147483648 b p)
      ∙ ap (λ (n : ℕ). round binary32 true (cond (not (eqb (c.units % 2 ^ 149) 0)) (n + 1) n) 1) (whole_digits c)

  rest_is : 0 < b % 2147483648 → (c : Cut b) → eqb (c.units % 2 ^ 149) 0 ≡ eqb (kept b s * 2 ^ s % 4294967296) (digits b)
  rest_is p c = c.rest p ∙ sym (ap (λ (z : ℕ). eqb (digits b / 2 ^ z * 2 ^ z % 4294967296) (digits b)) e ∙ left_over b (150 - field b))

  pub floor_minus_whole : 2147483648 ≤ b → 0 < b % 2147483648 → eqb (kept b s * 2 ^ s % 4294967296) (digits b) ≡ true → neg (of_int binary32 (pos (kept b s))) ≡ floor_of (of_bits binary32 b)
  unfolding of_int
  floor_minus_whole p q t =
      let c = cut b (le_of_lt h) in
      neg_round binary32 false (kept b s) 1 ∙ sym (below_zero p c ∙ ap (λ (z : Bool). round binary32 true (cond (not z) (kept b s + 1) (kept b s)) 1) (rest_is q c ∙ t))

  pub floor_minus_rest : 2147483648 ≤ b → 0 < b % 2147483648 → eqb (kept b s * 2 ^ s % 4294967296) (digits b) ≡ false → neg (of_int binary32 (pos (kept b s + 1))) ≡ floor_of (of_bits binary32 b)
  unfolding of_int
  floor_minus_rest p q t =
      let c = cut b (le_of_lt h) in
      neg_round binary32 false (kept b s + 1) 1 ∙ sym (below_zero p c ∙ ap (λ (z : Bool). round binary32 true (cond (not z) (kept b s + 1) (kept b s)) 1) (rest_is q c ∙ t))
