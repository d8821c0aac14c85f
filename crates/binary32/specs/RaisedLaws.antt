-- Adding 3 * 2 ^ 22 rounds to a whole number w: the sum lies from 2 ^ 23 to 2 ^ 24, where the last of the 24 digits stands for 1. So w is the sum's whole part q or one more,
-- its pattern is w with the exponent's field before it, and taking 3 * 2 ^ 22 off again is exact. The result is above z exactly if w is q + 1. Assumes nothing.
use Rattle.std.specs.Prelude.{◌≡◌, refl, Bool, true, false, not, cond, ℤ, pos, negsuc, T, leb, ltb, Float}
use Rattle.std.proofs.Common.{sym, ap, ◌∙◌, subst, true≢false, mul-one, one-mul, mul_assoc, mul_comm, mul_right_comm, mul-pos, zero-lt-suc, add-mul, add-sub_cancel, le_trans, le_of_lt, lt_of_lt_of_le, lt_of_not-le, not-le_of_lt, le_antisymm, mul-le-mul_right, mul-lt-mul_of_pos_right, lt_of_mul-lt-mul_right, le-div_iff_mul-le, div-lt_iff_lt-mul, le_of_suc-le-suc, add-one, arith, leb-true, leb-false, ltb-true, ltb-false, le-leb, lt-ltb, le-ltb, leb→le, le→leb, ltb→lt, lit<, lit≤, pow_pos, pow_mono}
use Prim.Native.Nat.{ℕ, suc, ◌+◌, ◌-◌, ◌*◌, ◌/◌, ◌%◌, ◌^◌, ◌≤◌, ◌<◌, compare, min}
use Rattle.std.proofs.Math.Nat.{mul-sub, mul-div-mul_right, mul-add-div_right, div-eq_of_lt-le}
use Rattle.std.proofs.lemmas.Bool.{lt-leb}
use Rattle.std.specs.Float.{nan, inf, fin, binary32}
use Rattle.std.specs.Float.Ieee.{up, down, minus, size, nearest, units, round, neg, add, sub, below, lt, of_int, is_nan, of_fields, of_bits, to_bits, to_unsigned}
use Rattle.std.specs.Float.Ieee.Bits.{of_bits-fits}
use Rattle.std.specs.Float.Ieee.Digits.{size-lt, size-le}
use Rattle.std.specs.Float.Ieee.Exact.{HasValue, units_val}
use Rattle.std.specs.Float.Ieee.Fits.{down_pos, round_is, add-fits, nearest-le}
use Rattle.std.specs.Float.Ieee.Nearest.{nearest-ge}
use Rattle.std.specs.Float.Ieee.Positive.{first_pos}
use Rattle.std.specs.Float.Ieee.Scale.{round_same}
use Rattle.std.specs.Float.Ieee.Back.{round_whole}
use Rattle.std.specs.Cmp.{both_ways}
use Rattle.binary32.specs.WordsLaws.{word_of_float_of}
use Rattle.binary32.specs.ValueLaws.{round_own}
use Rattle.binary32.specs.Binary32.{floor_part}
use Rattle.binary32.specs.FloorLaws.{floor_below_zero}
use Rattle.binary32.specs.Steps.{under_byte, raisable, raised_floor}
use Rattle.binary32.specs.NanLaws.{at_most_infinity}
use Rattle.binary32.specs.DigitLaws.{field, ltb_scale, of_bits_is, fields_value}
use Rattle.binary32.specs.FloorDigitLaws.{unscaled}

-- ---- a fraction from 2 ^ 23 to 2 ^ 24 is rounded to a whole number
-- its value in units of the smallest has 173 binary digits, and 149 of them are dropped
dropped : (N D : ℕ) → 0 < D → 8388608 * D ≤ N → N < 16777216 * D → size (N * 2 ^ 149 / D) - 24 ≡ 149
dropped N D p lo hi =
    let n = N * 2 ^ 149 / D in
    let a : 2 ^ 172 ≤ n = (le-div_iff_mul-le p).1 (subst (λ (z : ℕ). z ≤ N * 2 ^ 149) (mul_right_comm 8388608 D (2 ^ 149)) (mul-le-mul_right (2 ^ 149) lo)) in
    let b : n < 2 ^ 173 = (div-lt_iff_lt-mul p).1 (subst (λ (z : ℕ). N * 2 ^ 149 < z) (mul_right_comm 16777216 D (2 ^ 149)) (mul-lt-mul_of_pos_right hi (pow_pos 149))) in
    let c : size n ≤ 173 = size-le n 173 b in
    let d : 172 < size n = lt_of_not-le (λ (g : size n ≤ 172). not-le_of_lt (lt_of_lt_of_le (size-lt n) (pow_mono g)) a) in
    exact (size n) c d
  where
    exact : (z : ℕ) → z ≤ 173 → 172 < z → z - 24 ≡ 149
    exact z c d = omega arith

-- The whole number w, and what is known of it.
pub record Rounded (N D : ℕ) (x : Float) : Type 0 where
  pub w : ℕ
  pub least : N / D ≤ w
  pub most : w ≤ N / D + 1
  pub value : HasValue x false w 1

-- the pattern of a whole number from 2 ^ 23 to below 2 ^ 24
pattern_value : (w : ℕ) → 8388608 ≤ w → w < 16777216 → HasValue (of_bits binary32 (1249902592 + w)) false (w * 2 ^ 149) (2 ^ 149)
pattern_value w lo hi =
    let b = 1249902592 + w in
    let E : field b ≡ 150 = field_is w lo hi in
    let M : 8388608 + b % 8388608 ≡ w = digits_are w lo hi in
    subst (λ (v : Float). HasValue v false (w * 2 ^ 149) (2 ^ 149))
    (sym (of_bits_is b ∙ ap (λ (s : Bool). of_fields binary32 s (field b) (b % 8388608)) (lt-leb 2147483648 b (plain w hi)) ∙ ap (λ (x : ℕ). of_fields binary32 false x (b % 8388608)) E))
    (subst (λ (m : ℕ). HasValue (of_fields binary32 false 150 (b % 8388608)) false (m * 2 ^ 149) (2 ^ 149)) M (fields_value false 149 (b % 8388608) (lit< tt)))
  where
    field_is : (w : ℕ) → 8388608 ≤ w → w < 16777216 → field (1249902592 + w) ≡ 150
    field_is w lo hi = omega arith

    digits_are : (w : ℕ) → 8388608 ≤ w → w < 16777216 → 8388608 + (1249902592 + w) % 8388608 ≡ w
    digits_are w lo hi = omega arith

    plain : (w : ℕ) → w < 16777216 → 1249902592 + w < 2147483648
    plain w hi = omega arith

pub rounded : (N D : ℕ) → 0 < D → 8388608 * D ≤ N → N < 16777215 * D → Rounded N D (round binary32 false N D)
rounded N D p lo hi =
    let u = D * 2 ^ 149 in
    let q = N * 2 ^ 149 / u in
    let o = compare (N * 2 ^ 149 % u * 2) u in
    let w = nearest q o in
    let whole : q ≡ N / D = mul-div-mul_right N D (pow_pos 149) in
    let least : N / D ≤ w = subst (λ (z : ℕ). z ≤ w) whole (nearest-ge q o) in
    let most : w ≤ N / D + 1 = subst (λ (z : ℕ). w ≤ z) (ap suc whole ∙ sym (add-one (N / D))) (nearest-le q o) in
    let high : w < 16777216 = below w (N / D) most ((div-lt_iff_lt-mul p).1 hi) in
    let is : round binary32 false N D ≡ units binary32 false w 149 = round_is binary32 false N D ∙ ap (λ (k : ℕ). units binary32 false (nearest (N * 2 ^ 149 / (D * 2 ^ k)) (compare (N * 2 ^ 149 % (D * 2 ^ k) * 2) (D * 2 ^ k))) k) (dropped N D p lo (wider hi)) in
    let v : HasValue (round binary32 false N D) false (w * 2 ^ 149) (2 ^ 149) =
    subst (λ (x : Float). HasValue x false (w * 2 ^ 149) (2 ^ 149)) (sym is) (units_val binary32 false w 149 (fine w high)) in
    record { w = w; least = least; most = most; value = unscaled (round binary32 false N D) false w (2 ^ 149) (pow_pos 149) v }
  where
    below : (w q : ℕ) → w ≤ q + 1 → q < 16777215 → w < 16777216
    below w q h k = omega arith

    wider : N < 16777215 * D → N < 16777216 * D
    wider h = omega arith

    fine : (w : ℕ) → w < 16777216 → w * 2 ^ 149 < 2 ^ 277
    fine w h = lt_of_lt_of_le (mul-lt-mul_of_pos_right h (pow_pos 149)) (lit≤ tt)

-- ---- the difference of two whole numbers is exact
sub_times : (a b c : ℕ) → a * c - b * c ≡ (a - b) * c
sub_times a b c = ap (λ (z : ℕ). z - b * c) (mul_comm a c) ∙ ap (λ (z : ℕ). c * a - z) (mul_comm b c) ∙ sym (mul-sub c a b) ∙ mul_comm c (a - b)

pub whole_sub : (x y : Float) (a b : ℕ) → HasValue x false a 1 → HasValue y false b 1 → sub binary32 x y ≡ of_int binary32 (minus a b)
unfolding sub add neg of_int
whole_sub nan y a b v w = absurd v
whole_sub (inf s) y a b v w = absurd v
whole_sub (fin true m e) y a b v w = absurd (true≢false v.0)
whole_sub (fin false m e) nan a b v w = absurd w
whole_sub (fin false m e) (inf t) a b v w = absurd w
whole_sub (fin false m e) (fin true n d) a b v w = absurd (true≢false w.0)
whole_sub (fin false m e) (fin false n d) a b v w =
    let E = down e * down d in
    let some : 0 < E = mul-pos (down_pos e) (down_pos d) in
    let p : m * up e * down d ≡ a * E = ap (λ (z : ℕ). z * down d) (sym (mul-one (m * up e)) ∙ v.1) ∙ mul_assoc a (down e) (down d) in
    let q : n * up d * down e ≡ b * E = ap (λ (z : ℕ). z * down e) (sym (mul-one (n * up d)) ∙ w.1) ∙ mul_assoc b (down d) (down e) ∙ ap (λ (z : ℕ). b * z) (mul_comm (down d) (down e)) in
    ap (λ (z : ℕ). cond (ltb z (n * up d * down e)) (round binary32 true (n * up d * down e - z) E) (round binary32 false (z - n * up d * down e) E)) p
    ∙ ap (λ (z : ℕ). cond (ltb (a * E) z) (round binary32 true (z - a * E) E) (round binary32 false (a * E - z) E)) q
    ∙ go E some (leb b a) refl
  where
    more : (a b : ℕ) → a < b → b - a ≡ suc (b - suc a)
    more a b h = omega arith

    go : (E : ℕ) → 0 < E → (t : Bool) → leb b a ≡ t → cond (ltb (a * E) (b * E)) (round binary32 true (b * E - a * E) E) (round binary32 false (a * E - b * E) E) ≡ of_int binary32 (cond t (pos (a - b)) (negsuc (b - suc a)))
    go E some true f =
        ap (λ (u : Bool). cond u (round binary32 true (b * E - a * E) E) (round binary32 false (a * E - b * E) E)) (le-ltb (a * E) (b * E) (mul-le-mul_right E (leb-true b a f)))
        ∙ round_same binary32 false (a * E - b * E) E (a - b) 1 some (zero-lt-suc 0) (mul-one (a * E - b * E) ∙ sub_times a b E)
    go E some false f =
        ap (λ (u : Bool). cond u (round binary32 true (b * E - a * E) E) (round binary32 false (a * E - b * E) E)) (lt-ltb (a * E) (b * E) (mul-lt-mul_of_pos_right (leb-false b a f) some))
        ∙ round_same binary32 true (b * E - a * E) E (b - a) 1 some (zero-lt-suc 0) (mul-one (b * E - a * E) ∙ sub_times b a E)
        ∙ ap (λ (z : ℕ). round binary32 true z 1) (more a b (leb-false b a f))

-- ---- a finite float against a whole number
below_scale : (s : Bool) (p : ℕ) (t : Bool) (q h : ℕ) → 0 < h → below s (p * h) t (q * h) ≡ below s p t q
below_scale false p false q h k = ltb_scale p q h k
below_scale false p true q h k = refl
below_scale true p false q h k =
    ap (λ (z : ℕ). ltb 0 z) (sym (add-mul p q h))
    ∙ both_ways (ltb 0 ((p + q) * h)) (ltb 0 (p + q)) (λ u. lt-ltb 0 (p + q) (first_pos (p + q) h (ltb-true 0 ((p + q) * h) u))) (λ u. lt-ltb 0 ((p + q) * h) (mul-pos (ltb-true 0 (p + q) u) k))
below_scale true p true q h k = ltb_scale q p h k

pub lt_whole : (s : Bool) (m : ℕ) (e : ℤ) (x : Float) (t : Bool) (k : ℕ) → HasValue x t k 1 → lt (fin s m e) x ≡ below s (m * up e) t (k * down e)
unfolding lt
lt_whole s m e nan t k v = absurd v
lt_whole s m e (inf u) t k v = absurd v
lt_whole s m e (fin u n d) t k v =
    ap (λ (z : Bool). below s (m * up e * down d) z (n * up d * down e)) v.0
    ∙ ap (λ (z : ℕ). below s (m * up e * down d) t z) (ap (λ (z : ℕ). z * down e) (sym (mul-one (n * up d)) ∙ v.1) ∙ mul_right_comm k (down d) (down e))
    ∙ below_scale s (m * up e) t (k * down e) (down d) (down_pos d)

-- ---- z + 3 * 2 ^ 22, as a fraction over a z of magnitude a / c
abbrev pub lifted : Bool → ℕ → ℕ → ℕ
lifted s a c = cond s (12582912 * c - a) (12582912 * c + a)

abbrev pub big : Float
big = of_bits binary32 0x4b40_0000

pub lifted_sum : (s : Bool) (m : ℕ) (e : ℤ) → m * up e ≤ cond s 128 256 * down e → add binary32 (fin s m e) big ≡ round binary32 false (lifted s (m * up e) (down e)) (down e * 1)
unfolding add of_bits
lifted_sum false m e h = ap (λ (z : ℕ). round binary32 false z (down e * 1)) (turned (m * up e) (12582912 * down e))
  where
    turned : (a b : ℕ) → a * 1 + b ≡ b + a
    turned a b = omega arith
lifted_sum true m e h =
    ap (λ (b : Bool). cond b (round binary32 false (12582912 * down e - m * up e * 1) (down e * 1)) (round binary32 (ltb (12582912 * down e) (m * up e * 1)) (m * up e * 1 - 12582912 * down e) (down e * 1)))
    (lt-ltb (m * up e * 1) (12582912 * down e) (less (m * up e) (down e) (down_pos e) h))
    ∙ ap (λ (z : ℕ). round binary32 false (12582912 * down e - z) (down e * 1)) (mul-one (m * up e))
  where
    less : (a c : ℕ) → 0 < c → a ≤ 128 * c → a * 1 < 12582912 * c
    less a c p h = omega arith

-- w - 3 * 2 ^ 22 against z, by the sum's fraction: where w is 3 * 2 ^ 22 + k, and where it is k less
against_plus : (s : Bool) (a c w k : ℕ) → 0 < c → a ≤ 256 * c → w ≡ 12582912 + k → below s a false (k * c) ≡ ltb (lifted s a c) (w * c)
against_plus false a c w k p h e = plus a (12582912 * c) (k * c) (w * c) (ap (λ (z : ℕ). z * c) e ∙ add-mul 12582912 k c)
  where
    plus : (a x y z : ℕ) → z ≡ x + y → ltb a y ≡ ltb (x + a) z
    plus a x y z e = both_ways (ltb a y) (ltb (x + a) z) (λ u. lt-ltb (x + a) z (omega (arith, ltb-true a y u))) (λ u. lt-ltb a y (omega (arith, ltb-true (x + a) z u)))
against_plus true a c w k p h e = minus a (12582912 * c) (k * c) (w * c) (most a c p h) (ap (λ (z : ℕ). z * c) e ∙ add-mul 12582912 k c)
  where
    most : (a c : ℕ) → 0 < c → a ≤ 256 * c → a < 12582912 * c
    most a c p h = omega arith

    minus : (a x y z : ℕ) → a < x → z ≡ x + y → ltb 0 (a + y) ≡ ltb (x - a) z
    minus a x y z l e = both_ways (ltb 0 (a + y)) (ltb (x - a) z) (λ u. lt-ltb (x - a) z (omega (arith, ltb-true 0 (a + y) u))) (λ u. lt-ltb 0 (a + y) (omega (arith, ltb-true (x - a) z u)))

against_minus : (s : Bool) (a c w k : ℕ) → 0 < c → a ≤ 256 * c → 12582912 ≡ w + k → below s a true (k * c) ≡ ltb (lifted s a c) (w * c)
against_minus false a c w k p h e = sym (le-ltb (12582912 * c + a) (w * c) (none a (12582912 * c) (k * c) (w * c) (ap (λ (z : ℕ). z * c) e ∙ add-mul w k c)))
  where
    none : (a x y z : ℕ) → x ≡ z + y → z ≤ x + a
    none a x y z e = omega arith
against_minus true a c w k p h e = minus a (12582912 * c) (k * c) (w * c) (most a c p h) (ap (λ (z : ℕ). z * c) e ∙ add-mul w k c)
  where
    most : (a c : ℕ) → 0 < c → a ≤ 256 * c → a < 12582912 * c
    most a c p h = omega arith

    minus : (a x y z : ℕ) → a < x → x ≡ z + y → ltb y a ≡ ltb (x - a) z
    minus a x y z l e = both_ways (ltb y a) (ltb (x - a) z) (λ u. lt-ltb (x - a) z (omega (arith, ltb-true y a u))) (λ u. lt-ltb y a (omega (arith, ltb-true (x - a) z u)))

within : (s : Bool) (a c : ℕ) → a ≤ cond s 128 256 * c → a ≤ 256 * c
within true a c h = omega arith
within false a c h = h

pub above_z : (s : Bool) (m : ℕ) (e : ℤ) (w : ℕ) → m * up e ≤ cond s 128 256 * down e → w ≤ 16777216 → lt (fin s m e) (of_int binary32 (minus w 12582912)) ≡ ltb (lifted s (m * up e) (down e)) (w * down e)
unfolding of_int
above_z s m e w h l = go (leb 12582912 w) refl
  where
    up_to : (w : ℕ) → w ≤ 16777216 → w - 12582912 ≤ 16777216
    up_to w l = omega arith

    rest : (w : ℕ) → 12582912 ≤ w → w ≡ 12582912 + (w - 12582912)
    rest w l = omega arith

    least : (w : ℕ) → suc (12582912 - suc w) ≤ 16777216
    least w = omega arith

    missing : (w : ℕ) → w < 12582912 → 12582912 ≡ w + suc (12582912 - suc w)
    missing w l = omega arith

    go : (t : Bool) → leb 12582912 w ≡ t → lt (fin s m e) (of_int binary32 (cond t (pos (w - 12582912)) (negsuc (12582912 - suc w)))) ≡ ltb (lifted s (m * up e) (down e)) (w * down e)
    go true f =
        lt_whole s m e (round binary32 false (w - 12582912) 1) false (w - 12582912) (round_whole binary32 false (w - 12582912) (up_to w l))
        ∙ against_plus s (m * up e) (down e) w (w - 12582912) (down_pos e) (within s (m * up e) (down e) h) (rest w (leb-true 12582912 w f))
    go false f =
        lt_whole s m e (round binary32 true (suc (12582912 - suc w)) 1) true (suc (12582912 - suc w)) (round_whole binary32 true (suc (12582912 - suc w)) (least w))
        ∙ against_minus s (m * up e) (down e) w (suc (12582912 - suc w)) (down_pos e) (within s (m * up e) (down e) h) (missing w (leb-false 12582912 w f))

-- ---- the sum's whole part is the raised floor
pub fewer : (a c P : ℕ) → 0 < c → a ≤ 128 * c → P * c < a + c → P ≤ 128
fewer a c P p h l = le_of_suc-le-suc (lt_of_mul-lt-mul_right c (lt_of_lt_of_le l (most a c h)))
  where
    most : (a c : ℕ) → a ≤ 128 * c → a + c ≤ 129 * c
    most a c h = omega arith

quotient : (s : Bool) (m : ℕ) (e : ℤ) → m * up e ≤ cond s 128 256 * down e → lifted s (m * up e) (down e) / down e ≡ raised_floor (fin s m e)
unfolding raised_floor
quotient false m e h = mul-add-div_right (down_pos e) 12582912 (m * up e)
quotient true m e h =
    let a = m * up e in
    let c = down e in
    let P = floor_part true m e in
    let f = floor_below_zero m e in
    let k = 12582912 - P in
    let is : 12582912 * c ≡ k * c + P * c = ap (λ (z : ℕ). z * c) (parts P (fewer a c P (down_pos e) h f.1)) ∙ add-mul k P c in
    div-eq_of_lt-le c (under (12582912 * c) (k * c) (P * c) a is f.0)
    (subst (λ (z : ℕ). 12582912 * c - a < z) (sym (add-mul k 1 c ∙ ap (λ (z : ℕ). k * c + z) (one-mul c))) (over (12582912 * c) (k * c) (P * c) a c (down_pos e) is f.1))
  where
    parts : (P : ℕ) → P ≤ 128 → 12582912 ≡ 12582912 - P + P
    parts P h = omega arith

    under : (x y z a : ℕ) → x ≡ y + z → a ≤ z → y ≤ x - a
    under x y z a e h = omega arith

    over : (x y z a c : ℕ) → 0 < c → x ≡ y + z → z < a + c → x - a < y + c
    over x y z a c p e h = omega arith

-- ---- what the code finds
big_value : HasValue big false 12582912 1
unfolding of_bits
big_value = (refl, refl)

one_value : HasValue (of_bits binary32 0x3f80_0000) false 1 1
unfolding of_bits
one_value = (refl, refl)

low_enough : (s : Bool) (a c : ℕ) → 0 < c → a ≤ cond s 128 256 * c → 8388608 * (c * 1) ≤ lifted s a c
low_enough true a c p h = omega arith
low_enough false a c p h = omega arith

high_enough : (s : Bool) (a c : ℕ) → 0 < c → a ≤ cond s 128 256 * c → lifted s a c < 16777215 * (c * 1)
high_enough true a c p h = omega arith
high_enough false a c p h = omega arith

-- the float of the raised floor: s less 1 where the test holds, and s where it does not
pub record Raised (z : Float) : Type 0 where
  pub above : lt z (sub binary32 (add binary32 z big) big) ≡ true → sub binary32 (add binary32 z big) (of_bits binary32 0x3f80_0000) ≡ of_int binary32 (pos (raised_floor z))
  pub not_above : lt z (sub binary32 (add binary32 z big) big) ≡ false → add binary32 z big ≡ of_int binary32 (pos (raised_floor z))

one_less : (q : ℕ) → minus (q + 1) 1 ≡ pos q
one_less q = ap (λ (t : Bool). cond t (pos (q + 1 - 1)) (negsuc (1 - suc (q + 1)))) (le-leb 1 (q + 1) (some q)) ∙ ap pos (add-sub_cancel q 1)
  where
    some : (q : ℕ) → 1 ≤ q + 1
    some q = omega arith

raised_at : (s : Bool) (m : ℕ) (e : ℤ) → m * up e ≤ cond s 128 256 * down e → Raised (fin s m e)
unfolding of_int
raised_at s m e h =
    let z = fin s m e in
    let c = down e in
    let N = lifted s (m * up e) c in
    let C = mul-pos (down_pos e) (zero-lt-suc 0) in
    let high = high_enough s (m * up e) c (down_pos e) h in
    let sum = lifted_sum s m e h in
    let r = subst (λ (x : Float). Rounded N (c * 1) x) (sym sum) (rounded N (c * 1) C (low_enough s (m * up e) c (down_pos e) h) high) in
    let q : N / (c * 1) ≡ raised_floor z = ap (λ (d : ℕ). N / d) (mul-one c) ∙ quotient s m e h in
    let small : r.w ≤ 16777216 = le_trans r.most (next (N / (c * 1)) ((div-lt_iff_lt-mul C).1 high)) in
    let test : lt z (sub binary32 (add binary32 z big) big) ≡ ltb N (r.w * c) = ap (lt z) (whole_sub (add binary32 z big) big r.w 12582912 r.value big_value) ∙ above_z s m e r.w h small in
    record {
      above = λ t.
          let w : r.w ≡ raised_floor z + 1 =
          one_more r.w (raised_floor z) (subst (λ (x : ℕ). r.w ≤ x + 1) q r.most) (subst (λ (x : ℕ). x < r.w) (quotient s m e h) ((div-lt_iff_lt-mul (down_pos e)).1 (ltb-true N (r.w * c) (sym test ∙ t)))) in
          whole_sub (add binary32 z big) (of_bits binary32 0x3f80_0000) r.w 1 r.value one_value ∙ ap (of_int binary32) (ap (λ (x : ℕ). minus x 1) w ∙ one_less (raised_floor z));
      not_above = λ t.
          let w : r.w ≡ raised_floor z =
          le_antisymm (subst (λ (x : ℕ). r.w ≤ x) (quotient s m e h) ((le-div_iff_mul-le (down_pos e)).1 (ltb-false N (r.w * c) (sym test ∙ t)))) (subst (λ (x : ℕ). x ≤ r.w) q r.least) in
          sym (round_own (add binary32 z big) false r.w 1 (add-fits binary32 z big) (zero-lt-suc 0) r.value) ∙ ap (λ (x : ℕ). round binary32 false x 1) w;
    }
  where
    next : (q : ℕ) → q < 16777215 → q + 1 ≤ 16777216
    next q h = omega arith

    one_more : (w q : ℕ) → w ≤ q + 1 → q < w → w ≡ q + 1
    one_more w q h l = omega arith

pub raised : (z : Float) → T (raisable z) → Raised z
unfolding raisable
raised nan t = absurd t
raised (inf s) t = absurd t
raised (fin s m e) t = raised_at s m e (leb→le (m * up e) (cond s 128 256 * down e) t)

-- ---- the pattern of a raised floor, and what is taken off with it
pub raised_bits : (n : ℕ) → 8388608 ≤ n → n < 16777216 → to_bits binary32 (of_int binary32 (pos n)) ≡ 1249902592 + n
unfolding of_int
raised_bits n lo hi =
    let b = 1249902592 + n in
    let v : HasValue (of_bits binary32 b) false n 1 = unscaled (of_bits binary32 b) false n (2 ^ 149) (pow_pos 149) (pattern_value n lo hi) in
    ap (to_bits binary32) (round_own (of_bits binary32 b) false n 1 (of_bits-fits binary32 b) (zero-lt-suc 0) v) ∙ word_of_float_of b (word n hi) (at_most_infinity b (number n hi))
  where
    word : (w : ℕ) → w < 16777216 → 1249902592 + w < 4294967296
    word w h = omega arith

    number : (w : ℕ) → w < 16777216 → (1249902592 + w) % 2147483648 ≤ 2139095040
    number w h = omega arith

pub raised_off : (n : ℕ) → n < 16777216 → sub binary32 big (of_int binary32 (pos n)) ≡ of_int binary32 (minus 12582912 n)
unfolding of_int
raised_off n h = whole_sub big (round binary32 false n 1) 12582912 n big_value (round_whole binary32 false n (le_of_lt h))

no_nan : (x : Float) (s : Bool) (a c : ℕ) → HasValue x s a c → T (not (is_nan x))
unfolding is_nan
no_nan nan s a c v = absurd v
no_nan (inf t) s a c v = tt
no_nan (fin t m e) s a c v = tt

pub raised_number : (n : ℕ) → n < 16777216 → T (not (is_nan (of_int binary32 (pos n))))
unfolding of_int
raised_number n h = no_nan (round binary32 false n 1) false n 1 (round_whole binary32 false n (le_of_lt h))

-- ---- the raised floor has 24 binary digits
bounds : (s : Bool) (P q : ℕ) → P ≤ 128 → q ≤ 256 → (8388608 ≤ cond s (12582912 - P) (12582912 + q)) × (cond s (12582912 - P) (12582912 + q) < 16777216)
bounds true P q h k = (omega arith, omega arith)
bounds false P q h k = (omega arith, omega arith)

pub raised_bounds : (z : Float) → T (raisable z) → (8388608 ≤ raised_floor z) × (raised_floor z < 16777216)
unfolding raisable raised_floor
raised_bounds nan t = absurd t
raised_bounds (inf s) t = absurd t
raised_bounds (fin true m e) t = bounds true (floor_part true m e) 0 (fewer (m * up e) (down e) (floor_part true m e) (down_pos e) (leb→le (m * up e) (128 * down e) t) (floor_below_zero m e).1) (lit≤ tt)
raised_bounds (fin false m e) t = bounds false 0 (m * up e / down e) (lit≤ tt) (le_of_suc-le-suc ((div-lt_iff_lt-mul (down_pos e)).1 (less (m * up e) (down e) (down_pos e) (leb→le (m * up e) (256 * down e) t))))
  where
    less : (a d : ℕ) → 0 < d → a ≤ 256 * d → a < 257 * d
    less a d p h = omega arith

-- ---- a number from +0 to below 256: the last eight digits of the raised floor are the whole part
pub under_raisable : (x : Float) → T (under_byte x) → T (raisable x)
unfolding under_byte raisable
under_raisable nan t = absurd t
under_raisable (inf s) t = absurd t
under_raisable (fin true m e) t = absurd t
under_raisable (fin false m e) t = le→leb (m * up e) (256 * down e) (le_of_lt (ltb→lt (m * up e) (256 * down e) t))

pub under_raised : (x : Float) → T (under_byte x) → (1249902592 + raised_floor x) % 256 ≡ to_unsigned 8 x
unfolding under_byte raised_floor to_unsigned
under_raised nan t = absurd t
under_raised (inf s) t = absurd t
under_raised (fin true m e) t = absurd t
under_raised (fin false m e) t = rest (m * up e / down e) ((div-lt_iff_lt-mul (down_pos e)).1 (ltb→lt (m * up e) (256 * down e) t))
  where
    rest : (q : ℕ) → q < 256 → (1249902592 + (12582912 + q)) % 256 ≡ min q 255
    rest q h = omega arith
