-- What a bit pattern stands for: with the exponent's field E, its 24 digits M times 2 ^ (E - 150), so that its whole part is M moved down by 150 - E places. A pattern with E = 0 has no leading digit,
-- but is so small that its whole part is 0 all the same, with that digit or without. Assumes nothing.
use Rattle.std.specs.Prelude.{◌≡◌, refl, ◌⊎◌, Bool, true, false, cond, ℕ, zero, suc, ◌+◌, ◌-◌, ◌*◌, ◌/◌, ◌%◌, ◌^◌, ◌≤◌, ◌<◌, min, ℤ, leb, ltb, eqb, Float}
use Rattle.std.proofs.Common.{sym, ap, ◌∙◌, subst, inl, inr, zero-mul, add-zero, mul_assoc, mul_comm, div-add-mod', div-mul-le_self, mod-eq_of_lt, le_of_lt, lt_of_lt_of_le, lt_of_le_of_lt, mul_right_comm, mul-lt-mul_of_pos_right, lt_of_mul-lt-mul_right, div-lt_iff_lt-mul, add_comm, arith, ltb-true, lt-ltb, leb-true, leb-false, eqb-true, eq-eqb, ne_eqb, lit<, lit≤, pow-add, pow_pos, pow_mono}
use Rattle.std.proofs.Math.Nat.{mul-mod_left, eq_of_mul-eq-mul_right, div-eq_of_lt, mul-div-mul_right}
use Rattle.std.specs.Float.{nan, inf, fin, binary32}
use Rattle.std.specs.Float.Ieee.{up, down, size, odd, of_fields, of_bits, to_bits}
use Rattle.std.specs.Float.Ieee.Digits.{size-le}
use Rattle.std.specs.Float.Ieee.Exact.{HasValue, odd_sign}
use Rattle.std.specs.Float.Ieee.Fits.{down_pos, kept-lt}
use Rattle.std.specs.Cmp.{both_ways}

-- the exponent's field and the digits, a leading one among them
abbrev pub field : ℕ → ℕ
field b = b % 2147483648 / 8388608

abbrev pub digits : ℕ → ℕ
digits b = b % 8388608 + 8388608

-- d against 31
either : (d : ℕ) → (d ≤ 31) ⊎ (31 ≤ d)
either d = go (leb d 31) refl
  where
    go : (t : Bool) → leb d 31 ≡ t → (d ≤ 31) ⊎ (31 ≤ d)
    go true e = inl (leb-true d 31 e)
    go false e = inr (le_of_lt (leb-false d 31 e))

least : (d : ℕ) → d ≤ 31 → min d 31 ≡ d
least d h = omega arith

most : (d : ℕ) → 31 ≤ d → min d 31 ≡ 31
most d h = omega arith

pub few : (b : ℕ) → digits b < 16777216
few b = omega arith

-- ---- the value of a pattern
pub of_bits_is : (b : ℕ) → of_bits binary32 b ≡ of_fields binary32 (leb 2147483648 b) (field b) (b % 8388608)
unfolding of_bits
of_bits_is b = refl

pub fields_value : (s : Bool) (x t : ℕ) → suc x < 255 → HasValue (of_fields binary32 s (suc x) t) s ((8388608 + t) * 2 ^ x) (2 ^ 149)
unfolding of_fields
fields_value s x t h =
    subst (λ (b : Bool). HasValue (cond b (cond (eqb t 0) (inf s) nan) (odd 24 s (8388608 + t) x 149)) s ((8388608 + t) * 2 ^ x) (2 ^ 149))
    (sym (ne_eqb (suc x) 255 (λ e. no e)))
    (odd_sign 24 s (8388608 + t) x 149)
  where
    no : suc x ≡ 255 → ⊥
    no e = omega arith

tiny_fields : (s : Bool) (t : ℕ) → HasValue (of_fields binary32 s 0 t) s (t * 1) (2 ^ 149)
unfolding of_fields
tiny_fields s t = odd_sign 24 s t 0 149

-- ---- tests of numbers
pub ltb_scale : (p q h : ℕ) → 0 < h → ltb (p * h) (q * h) ≡ ltb p q
ltb_scale p q h k = both_ways (ltb (p * h) (q * h)) (ltb p q) (λ u. lt-ltb p q (lt_of_mul-lt-mul_right h (ltb-true (p * h) (q * h) u))) (λ u. lt-ltb (p * h) (q * h) (mul-lt-mul_of_pos_right (ltb-true p q u) k))

-- equal fractions p / d and a / c leave a rest alike
rest_none : (p d a c : ℕ) → 0 < d → p * c ≡ a * d → p % d ≡ 0 → a % c ≡ 0
rest_none p d a c D e z =
    let q = p / d in
    let is : a ≡ q * c =
    eq_of_mul-eq-mul_right d D a (q * c)
    (sym e ∙ ap (λ (k : ℕ). k * c) (sym (div-add-mod' p d) ∙ ap (λ (k : ℕ). q * d + k) z ∙ add-zero (q * d)) ∙ mul_right_comm q d c) in
    ap (λ (k : ℕ). k % c) is ∙ mul-mod_left q c

pub rest_same : (p d a c : ℕ) → 0 < d → 0 < c → p * c ≡ a * d → eqb (p % d) 0 ≡ eqb (a % c) 0
rest_same p d a c D C e =
    both_ways (eqb (p % d) 0) (eqb (a % c) 0) (λ t. eq-eqb (a % c) 0 (rest_none p d a c D e (eqb-true (p % d) 0 t)))
    (λ t. eq-eqb (p % d) 0 (rest_none a c p d C (sym e) (eqb-true (a % c) 0 t)))

-- The value in units of the smallest, 2 ^ -149, its whole part, and whether a rest is left: in a number that is not zero.
pub record Cut (b : ℕ) : Type 0 where
  pub units : ℕ
  pub value : HasValue (of_bits binary32 b) (leb 2147483648 b) units (2 ^ 149)
  pub whole : units / 2 ^ 149 ≡ digits b / 2 ^ (150 - field b)
  pub rest : 0 < b % 2147483648 → eqb (units % 2 ^ 149) 0 ≡ eqb (digits b % 2 ^ (150 - field b)) 0

places : (E x : ℕ) → E ≡ suc x → E ≤ 150 → 150 - E + x ≡ 149
places E x e h = omega arith

cut_at : (b x : ℕ) → field b ≡ x → x ≤ 150 → Cut b
cut_at b zero e h = record {
  units = b % 8388608 * 1;
  value = subst (λ (v : Float). HasValue v (leb 2147483648 b) (b % 8388608 * 1) (2 ^ 149)) (sym (of_bits_is b ∙ ap (λ (z : ℕ). of_fields binary32 (leb 2147483648 b) z (b % 8388608)) e)) (tiny_fields (leb 2147483648 b) (b % 8388608));
  whole =
      div-eq_of_lt (lt_of_lt_of_le {n = b % 8388608 * 1} {m = 8388608} {k = 2 ^ 149} (omega arith) (lit≤ tt))
      ∙ sym (div-eq_of_lt (lt_of_lt_of_le {n = digits b} {m = 16777216} (few b) (subst (λ (z : ℕ). 16777216 ≤ 2 ^ (150 - z)) (sym e) (lit≤ tt))));
  rest = λ p.
      ap (λ (z : ℕ). eqb z 0) (mod-eq_of_lt (lt_of_lt_of_le {n = b % 8388608 * 1} {m = 8388608} {k = 2 ^ 149} (omega arith) (lit≤ tt)))
      ∙ ne_eqb (b % 8388608 * 1) 0 (some b e p)
      ∙ sym (ap (λ (z : ℕ). eqb z 0) (mod-eq_of_lt (lt_of_lt_of_le {n = digits b} {m = 16777216} (few b) (subst (λ (z : ℕ). 16777216 ≤ 2 ^ (150 - z)) (sym e) (lit≤ tt)))) ∙ ne_eqb (digits b) 0 (λ z. lead b z));
}
  where
    some : (b : ℕ) → field b ≡ 0 → 0 < b % 2147483648 → b % 8388608 * 1 ≡ 0 → ⊥
    some b e p z = omega arith

    lead : (b : ℕ) → digits b ≡ 0 → ⊥
    lead b z = omega arith
cut_at b (suc x) e h =
    let M = 8388608 + b % 8388608 in
    let d = 150 - field b in
    let split : 2 ^ 149 ≡ 2 ^ d * 2 ^ x = ap (λ (z : ℕ). 2 ^ z) (sym (places (field b) x e (subst (λ (z : ℕ). z ≤ 150) (sym e) h))) ∙ pow-add 2 d x in
    record {
      units = M * 2 ^ x;
      value = subst (λ (v : Float). HasValue v (leb 2147483648 b) (M * 2 ^ x) (2 ^ 149)) (sym (of_bits_is b ∙ ap (λ (z : ℕ). of_fields binary32 (leb 2147483648 b) z (b % 8388608)) e)) (fields_value (leb 2147483648 b) x (b % 8388608) (lt_of_le_of_lt h (lit< tt)));
      whole = ap (λ (z : ℕ). M * 2 ^ x / z) split ∙ mul-div-mul_right M (2 ^ d) (pow_pos x) ∙ ap (λ (z : ℕ). z / 2 ^ d) (add_comm 8388608 (b % 8388608));
      rest = λ p.
          rest_same (M * 2 ^ x) (2 ^ 149) M (2 ^ d) (pow_pos 149) (pow_pos d) (mul_assoc M (2 ^ x) (2 ^ d) ∙ ap (λ (z : ℕ). M * z) (mul_comm (2 ^ x) (2 ^ d) ∙ sym split))
          ∙ ap (λ (z : ℕ). eqb (z % 2 ^ d) 0) (add_comm 8388608 (b % 8388608));
    }

pub cut : (b : ℕ) → field b ≤ 150 → Cut b
cut b h = cut_at b (field b) refl h

-- 31 places take all the digits off, as any more do
none_left : (b d : ℕ) → 31 ≤ d → digits b < 2 ^ d
none_left b d h = lt_of_lt_of_le {n = digits b} {m = 2147483648} (lt_of_lt_of_le {n = digits b} {m = 16777216} (few b) (lit≤ tt)) (pow_mono {i = 31} {j = d} h)

-- so moving the digits down by `behind` places keeps those before the point
pub moved : (b d : ℕ) → digits b / 2 ^ min d 31 ≡ digits b / 2 ^ d
moved b d = elim (either d) [
  | inl h ↦ ap (λ (z : ℕ). digits b / 2 ^ z) (least d h)
  | inr h ↦ ap (λ (z : ℕ). digits b / 2 ^ z) (most d h) ∙ div-eq_of_lt (none_left b 31 (lit≤ tt)) ∙ sym (div-eq_of_lt (none_left b d h))
]

-- and nothing is left behind the point exactly if moving back gives all of them
pub left_over : (b d : ℕ) → eqb (digits b / 2 ^ min d 31 * 2 ^ min d 31 % 4294967296) (digits b) ≡ eqb (digits b % 2 ^ d) 0
left_over b d = elim (either d) [
  | inl h ↦
      ap (λ (z : ℕ). eqb (digits b / 2 ^ z * 2 ^ z % 4294967296) (digits b)) (least d h)
      ∙ ap (λ (z : ℕ). eqb z (digits b)) (mod-eq_of_lt (lt_of_le_of_lt (div-mul-le_self (digits b) (2 ^ d)) (lt_of_lt_of_le {n = digits b} {m = 16777216} (few b) (lit≤ tt))))
      ∙ split (digits b / 2 ^ d * 2 ^ d) (digits b % 2 ^ d) (digits b) (div-add-mod' (digits b) (2 ^ d))
  | inr h ↦
      ap (λ (z : ℕ). eqb (z * 2 ^ min d 31 % 4294967296) (digits b)) (moved b d ∙ div-eq_of_lt (none_left b d h))
      ∙ ap (λ (z : ℕ). eqb (z % 4294967296) (digits b)) (zero-mul (2 ^ min d 31))
      ∙ ne_eqb 0 (digits b) (λ e. no b (sym e))
      ∙ sym (ap (λ (z : ℕ). eqb z 0) (mod-eq_of_lt (none_left b d h)) ∙ ne_eqb (digits b) 0 (no b))
]
  where
    no : (b : ℕ) → digits b ≡ 0 → ⊥
    no b e = omega arith

    split : (q r m : ℕ) → q + r ≡ m → eqb q m ≡ eqb r 0
    split q r m e = both_ways (eqb q m) (eqb r 0) (λ t. eq-eqb r 0 (left q r m e (eqb-true q m t))) (λ t. eq-eqb q m (right q r m e (eqb-true r 0 t)))
      where
        left : (q r m : ℕ) → q + r ≡ m → q ≡ m → r ≡ 0
        left q r m e h = omega arith

        right : (q r m : ℕ) → q + r ≡ m → r ≡ 0 → q ≡ m
        right q r m e h = omega arith

-- ---- the pattern of a number below 256
pub bits_below : (m : ℕ) (e : ℤ) → m * up e < 256 * down e → to_bits binary32 (fin false m e) < 1132462080
unfolding to_bits
bits_below m e h =
    let n = m * up e * 2 ^ 149 / down e in
    let few : n < 2 ^ 157 = (div-lt_iff_lt-mul (down_pos e)).1 (subst (λ (z : ℕ). m * up e * 2 ^ 149 < z) (mul_right_comm 256 (down e) (2 ^ 149)) (mul-lt-mul_of_pos_right h (pow_pos 149))) in
    let k : size n ≤ 157 = size-le n 157 few in
    let q : n / 2 ^ (size n - 24) < 16777216 = kept-lt 24 n in
    bound (size n) (n / 2 ^ (size n - 24)) k q
  where
    bound : (z q : ℕ) → z ≤ 157 → q < 16777216 → 0 + (z - 24) * 8388608 + q < 1132462080
    bound z q h k = omega arith
