-- Numbers from 0 to below 256. Their whole part is that of the digits that `whole` keeps; and a fraction that is not above 255 rounds to such a number, since rounding keeps the order.
-- Assumes nothing.
use Rattle.std.specs.Prelude.{◌≡◌, refl, ◌⊎◌, Bool, true, false, not, ◌&&◌, ◌||◌, cond, ℕ, zero, suc, ◌-◌, ◌*◌, ◌/◌, ◌^◌, ◌≤◌, ◌<◌, min, pos, T, ltb, eqb, Float}
use Rattle.std.proofs.Common.{sym, ap, ◌∙◌, subst, inl, inr, true≢false, mul-one, le_of_eq, le_of_lt, lt_of_le_of_lt, div-lt_iff_lt-mul, zero-lt-suc, arith, ltb→lt, lt→ltb, eqb→eq, pow_pos}
use Rattle.std.proofs.lemmas.Bool.{lt-leb}
use Rattle.std.specs.Float.{nan, inf, fin, binary32}
use Rattle.std.specs.Float.Ieee.{up, down, odd, units, round, le, fits, of_bits, to_bits, to_unsigned}
use Rattle.std.specs.Float.Ieee.Bits.{of_bits-to_bits}
use Rattle.std.specs.Float.Ieee.Exact.{HasValue}
use Rattle.std.specs.Float.Ieee.Fits.{down_pos, round_is, and_l, and_r}
use Rattle.std.specs.Float.Ieee.Nearest.{div_same}
use Rattle.std.specs.Float.Ieee.Order.{round_mono}
use Rattle.binary32.specs.Binary32.{minus_sign}
use Rattle.binary32.specs.Steps.{under_byte}
use Rattle.binary32.specs.DigitLaws.{field, digits, cut, moved, bits_below}

-- ---- the whole part, by the value
pub unsigned_value : (x : Float) (a c : ℕ) → 0 < c → HasValue x false a c → to_unsigned 8 x ≡ min (a / c) 255
unfolding to_unsigned
unsigned_value nan a c h v = absurd v
unsigned_value (inf t) a c h v = absurd v
unsigned_value (fin t m e) a c h v =
    ap (λ (b : Bool). cond b 0 (min (m * up e / down e) 255)) v.0
    ∙ ap (λ (z : ℕ). min z 255) (div_same (m * up e) (down e) a c (down_pos e) h v.1)

-- ---- a number below 256
under_value : (x : Float) (a c : ℕ) → 0 < c → HasValue x false a c → T (under_byte x) → a / c < 256
unfolding under_byte
under_value nan a c h v t = absurd v
under_value (inf s) a c h v t = absurd v
under_value (fin s m e) a c h v t =
    subst (λ (z : ℕ). z < 256) (div_same (m * up e) (down e) a c (down_pos e) h v.1)
    ((div-lt_iff_lt-mul (down_pos e)).1 (ltb→lt (m * up e) (256 * down e) (and_r (not s) (ltb (m * up e) (256 * down e)) t)))

pub under_bits : (x : Float) → T (under_byte x) → to_bits binary32 x < 1132462080
unfolding under_byte
under_bits nan t = absurd t
under_bits (inf s) t = absurd t
under_bits (fin true m e) t = absurd t
under_bits (fin false m e) t = bits_below m e (ltb→lt (m * up e) (256 * down e) t)

capped : (a : ℕ) → a < 256 → min a 255 ≡ a
capped a h = omega arith

same_field : (b : ℕ) → b < 1132462080 → field b ≡ b / 8388608
same_field b h = omega arith

pub whole_is : (x : Float) (s : ℕ) → T (fits binary32 x) → T (under_byte x) → s ≡ min (150 - to_bits binary32 x / 8388608) 31 → digits (to_bits binary32 x) / 2 ^ s ≡ to_unsigned 8 x
whole_is x s p t e =
    let b = to_bits binary32 x in
    let h = under_bits x t in
    let c = cut b (low_field b h) in
    let v : HasValue x false c.units (2 ^ 149) =
    subst (λ (z : Float). HasValue z false c.units (2 ^ 149)) (of_bits-to_bits binary32 x p)
    (subst (λ (z : Bool). HasValue (of_bits binary32 b) z c.units (2 ^ 149)) (lt-leb 2147483648 b (plain b h)) c.value) in
    ap (λ (z : ℕ). digits b / 2 ^ z) (e ∙ ap (λ (z : ℕ). min (150 - z) 31) (sym (same_field b h)))
    ∙ moved b (150 - field b)
    ∙ sym c.whole
    ∙ sym (capped (c.units / 2 ^ 149) (under_value x c.units (2 ^ 149) (pow_pos 149) v t))
    ∙ sym (unsigned_value x c.units (2 ^ 149) (pow_pos 149) v)
  where
    low_field : (b : ℕ) → b < 1132462080 → field b ≤ 150
    low_field b h = omega arith

    plain : (b : ℕ) → b < 1132462080 → b < 2147483648
    plain b h = omega arith

-- ---- rounding keeps the sign
odd_minus : (d : ℕ) (s : Bool) (q k l : ℕ) → minus_sign (odd d s q k l) ≡ s
unfolding odd
odd_minus d s zero k l = refl
odd_minus d s (suc q) k l = refl

units_minus : (s : Bool) (q k : ℕ) → minus_sign (units binary32 s q k) ≡ s
unfolding units
units_minus s q k = go (ltb (q * 2 ^ k) (2 ^ 277))
  where
    go : (b : Bool) → minus_sign (cond b (odd 25 s q k 149) (inf s)) ≡ s
    go true = odd_minus 25 s q k 149
    go false = refl

pub round_minus : (s : Bool) (a c : ℕ) → minus_sign (round binary32 s a c) ≡ s
round_minus s a c = ap minus_sign (round_is binary32 s a c) ∙ units_minus s _ _

-- what has a minus sign converts to 0
pub minus_unsigned : (x : Float) → minus_sign x ≡ true → to_unsigned 8 x ≡ 0
unfolding to_unsigned
minus_unsigned nan h = refl
minus_unsigned (inf s) h = ap (λ (b : Bool). cond b 0 255) h
minus_unsigned (fin s m e) h = ap (λ (b : Bool). cond b 0 (min (m * up e / down e) 255)) h

-- ---- a fraction up to 255 rounds to a number up to 255
or_cases : (a b : Bool) → T (a || b) → T a ⊎ T b
or_cases true b t = inl tt
or_cases false b t = inr t

up_to : (x : Float) → minus_sign x ≡ false → T (le x (fin false 255 (pos 0))) → T (under_byte x)
unfolding le under_byte
up_to nan s h = absurd h
up_to (inf true) s h = absurd (true≢false s)
up_to (inf false) s h = absurd h
up_to (fin true m e) s h = absurd (true≢false s)
up_to (fin false m e) s h = lt→ltb (m * up e) (256 * down e) (lt_of_le_of_lt (le_255 (or_cases (ltb (m * up e * 1) (255 * down e)) (eqb (m * up e * 1) (255 * down e) && true) h)) (more (down e) (down_pos e)))
  where
    more : (d : ℕ) → 0 < d → 255 * d < 256 * d
    more d p = omega arith

    le_255 : T (ltb (m * up e * 1) (255 * down e)) ⊎ T (eqb (m * up e * 1) (255 * down e) && true) → m * up e ≤ 255 * down e
    le_255 (inl t) = subst (λ (z : ℕ). z ≤ 255 * down e) (mul-one (m * up e)) (le_of_lt (ltb→lt (m * up e * 1) (255 * down e) t))
    le_255 (inr t) = le_of_eq (sym (mul-one (m * up e)) ∙ eqb→eq (m * up e * 1) (255 * down e) (and_l (eqb (m * up e * 1) (255 * down e)) true t))

round_255 : round binary32 false 255 1 ≡ fin false 255 (pos 0)
unfolding round
round_255 = refl

pub round_under : (a c : ℕ) → 0 < c → a ≤ 255 * c → T (under_byte (round binary32 false a c))
round_under a c h k =
    up_to (round binary32 false a c) (round_minus false a c)
    (subst (λ (z : Float). T (le (round binary32 false a c) z)) round_255
    (round_mono binary32 a c 255 1 h (zero-lt-suc 0) (subst (λ (z : ℕ). z ≤ 255 * c) (sym (mul-one a)) k)))
