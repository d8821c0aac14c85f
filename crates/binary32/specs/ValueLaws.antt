-- A float that binary32 holds is fixed by its sign and its value a / c: its bit pattern is written from these alone (`same_value`). So rounding that value gives the float itself (`round_own`).
-- Assumes nothing.
use Rattle.std.specs.Prelude.{◌≡◌, Bool, cond, ◌&&◌, ℕ, zero, suc, ◌+◌, ◌-◌, ◌*◌, ◌/◌, ◌%◌, ◌^◌, ◌≤◌, ◌<◌, ℤ, pos, negsuc, T, leb, ltb, eqb, Float}
use Rattle.std.proofs.Common.{sym, ap, ◌∙◌, subst, mul_assoc, mul_right_comm, mul-one, zero-mul, mul-pos, lt_irrefl, lt_of_mul-lt-mul_right, mul-lt-mul_of_pos_right, lt_of_not-le, le_of_suc-le-suc, lt_of_lt_of_le, arith, ltb→lt, leb→le, lit<, pow-add, pow_pos}
use Rattle.std.proofs.Math.Nat.{eq_of_mul-eq-mul_right}
use Rattle.std.proofs.Math.Pow.{pow-lt}
use Rattle.std.specs.Float.{nan, inf, fin, binary32}
use Rattle.std.specs.Float.Ieee.{up, down, size, round, fits, of_bits, to_bits}
use Rattle.std.specs.Float.Ieee.Bits.{of_bits-to_bits}
use Rattle.std.specs.Float.Ieee.Exact.{HasValue, round_exact}
use Rattle.std.specs.Float.Ieee.Fits.{down_pos, round-fits, and_l, and_r}
use Rattle.std.specs.Float.Ieee.Nearest.{div_same}

-- ---- the bit pattern, from the sign and the value in units of the smallest value
abbrev written : Bool → ℕ → ℕ
written s n = cond s 2147483648 0 + (size n - 24) * 8388608 + n / 2 ^ (size n - 24)

bits_of_value : (x : Float) (s : Bool) (a c : ℕ) → 0 < c → HasValue x s a c → to_bits binary32 x ≡ written s (a * 2 ^ 149 / c)
unfolding to_bits
bits_of_value nan s a c h v = absurd v
bits_of_value (inf t) s a c h v = absurd v
bits_of_value (fin t m e) s a c h v =
    ap (λ (n : ℕ). written t n)
    (div_same (m * up e * 2 ^ 149) (down e) (a * 2 ^ 149) c (down_pos e) h
    (mul_right_comm (m * up e) (2 ^ 149) c ∙ ap (λ (z : ℕ). z * 2 ^ 149) v.1 ∙ mul_right_comm a (down e) (2 ^ 149)))
    ∙ ap (λ (b : Bool). written b (a * 2 ^ 149 / c)) v.0

pub same_value : (x y : Float) (s : Bool) (a c : ℕ) → T (fits binary32 x) → T (fits binary32 y) → 0 < c → HasValue x s a c → HasValue y s a c → x ≡ y
same_value x y s a c p q h v w =
    sym (of_bits-to_bits binary32 x p)
    ∙ ap (of_bits binary32) (bits_of_value x s a c h v ∙ sym (bits_of_value y s a c h w))
    ∙ of_bits-to_bits binary32 y q

-- ---- what `fits` says of a finite float: its digits are m * 2 ^ j smallest values
pub record Held (m : ℕ) (e : ℤ) : Type 0 where
  pub few : m < 16777216
  pub j : ℕ
  pub is : m * up e * 2 ^ 149 ≡ m * 2 ^ j * down e
  pub below : m * up e < 2 ^ 128 * down e

pow_le_back : (a l : ℕ) → 2 ^ a ≤ 2 ^ l → a ≤ l
pow_le_back a l h = le_of_suc-le-suc (lt_of_not-le (λ (g : suc l ≤ a). lt_irrefl (2 ^ l) (lt_of_lt_of_le (pow-lt g) h)))

back : (l k : ℕ) → suc k ≤ l → l - suc k + suc k ≡ l
back l k h = omega arith

in_units_lem : (m : ℕ) (e : ℤ) → down e ≤ 2 ^ 149 → (j : ℕ) × (m * up e * 2 ^ 149 ≡ m * 2 ^ j * down e)
in_units_lem m (pos k) h = (k + 149, mul_assoc m (2 ^ k) (2 ^ 149) ∙ ap (λ (z : ℕ). m * z) (sym (pow-add 2 k 149)) ∙ sym (mul-one (m * 2 ^ (k + 149))))
in_units_lem m (negsuc k) h = (
  149 - suc k,
  ap (λ (z : ℕ). z * 2 ^ 149) (mul-one m)
      ∙ ap (λ (z : ℕ). m * 2 ^ z) (sym (back 149 k (pow_le_back (suc k) 149 h)))
      ∙ ap (λ (z : ℕ). m * z) (pow-add 2 (149 - suc k) (suc k))
      ∙ sym (mul_assoc m (2 ^ (149 - suc k)) (2 ^ suc k)),
)

pub held : (s : Bool) (m : ℕ) (e : ℤ) → T (fits binary32 (fin s m e)) → Held m e
unfolding fits
held s zero e t = record {
  few = lit< tt;
  j = 0;
  is = ap (λ (z : ℕ). z * 2 ^ 149) (zero-mul (up e)) ∙ zero-mul (2 ^ 149) ∙ sym (zero-mul (down e));
  below = subst (λ (z : ℕ). z < 2 ^ 128 * down e) (sym (zero-mul (up e))) (mul-pos (pow_pos 128) (down_pos e));
}
held s (suc m) e t =
    let A = eqb (suc m % 2) 1 in
    let B = ltb (suc m) 16777216 in
    let C = leb (down e) (2 ^ 149) in
    let D = ltb (suc m * up e) (2 ^ 128 * down e) in
    let u = in_units_lem (suc m) e (leb→le (down e) (2 ^ 149) (and_r (A && B) C (and_l (A && B && C) D t))) in
    record {
      few = ltb→lt (suc m) 16777216 (and_r A B (and_l (A && B) C (and_l (A && B && C) D t)));
      j = u.0;
      is = u.1;
      below = ltb→lt (suc m * up e) (2 ^ 128 * down e) (and_r (A && B && C) D t);
    }

-- ---- rounding its value gives the float
pub round_own : (x : Float) (s : Bool) (a c : ℕ) → T (fits binary32 x) → 0 < c → HasValue x s a c → round binary32 s a c ≡ x
round_own nan s a c p h v = absurd v
round_own (inf t) s a c p h v = absurd v
round_own (fin t m e) s a c p h v =
    let g = held t m e p in
    let j = g.j in
    let d = down e in
    let is : a * 2 ^ 149 ≡ m * 2 ^ j * c =
    eq_of_mul-eq-mul_right d (down_pos e) (a * 2 ^ 149) (m * 2 ^ j * c)
    (mul_right_comm a (2 ^ 149) d
    ∙ ap (λ (z : ℕ). z * 2 ^ 149) (sym v.1)
    ∙ mul_right_comm (m * up e) c (2 ^ 149)
    ∙ ap (λ (z : ℕ). z * c) g.is
    ∙ mul_right_comm (m * 2 ^ j) d c) in
    let fine : m * 2 ^ j < 2 ^ 277 =
    lt_of_mul-lt-mul_right d
    (subst (λ (z : ℕ). z < 2 ^ 277 * d) g.is
    (subst (λ (z : ℕ). m * up e * 2 ^ 149 < z) (mul_right_comm (2 ^ 128) d (2 ^ 149)) (mul-lt-mul_of_pos_right g.below (pow_pos 149)))) in
    same_value (round binary32 s a c) (fin t m e) s a c (round-fits binary32 s a c) p h (round_exact binary32 s a c m j h g.few fine is) v
