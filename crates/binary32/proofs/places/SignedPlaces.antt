-- The signed place, case by case. From zero up both the code and the definition take the smaller of the floor and 127, below zero that of its magnitude and 128.
-- Wrapping a number from −128 to 127 into 0 to 255 is adding a multiple of 256 and keeping the rest by 256. Assumes nothing.
use mathlib.Core.Path.{◌≡◌, refl, sym, ap, ◌∙◌}
use mathlib.Core.Bool.{Bool, true, false, not, cond, true≢false}
use Prim.Native.Nat.{ℕ, zero, suc, ◌+◌, ◌-◌, ◌*◌, ◌/◌, ◌%◌, ◌≤◌, ◌<◌, min}
use native.Mathlib.Nat.{le_of_lt, le_trans, le_of_suc-le-suc, le-div_iff_mul-le, div-lt_iff_lt-mul, le_of_mul-le-mul_right}
use native.Mathlib.Omega.{arith}
use borrow.Author.Tests.{ltb-true, ltb-false, lt-ltb}
use lib.IntN.{ℤ}
use lib.Dec.{T, ltb, le→leb, lt→ltb, lit≤}
use lib.Ieee.{Float, nan, inf, fin, binary32, up, down, minus, round, neg, add, sub, lt, of_int, in_float, to_signed, fits, is_nan, of_bits}
use lib.Ieee.Back.{positive_back, negative_back}
use lib.Ieee.Exact.{HasValue}
use lib.Ieee.Fits.{down_pos}
use Rattle.binary32.specs.Binary32.{float127, minus128, clamp_of, floor_part, floor_of, wrapped}
use Rattle.binary32.specs.FloorLaws.{floor_exact, floor_below_zero}
use Rattle.binary32.specs.Steps.{held_of, raisable, raised_floor}
use Rattle.binary32.specs.HeldLaws.{held_cases}
use Rattle.binary32.specs.CastLaws.{exact}
use Rattle.binary32.proofs.places.Placing.{off_plus, off_minus, test_same, above_whole}
use Rattle.binary32.specs.RaisedLaws.{fewer}

-- ---- what is held is a number that `raised_floor` takes
within : (y : Float) → lt minus128 y ≡ true → lt float127 y ≡ false → T (raisable y)
unfolding lt of_bits raisable
within nan p q = absurd (true≢false (sym p))
within (inf true) p q = absurd (true≢false (sym p))
within (inf false) p q = absurd (true≢false q)
within (fin true m e) p q = le→leb (m * up e) (128 * down e) (less (m * up e) (down e) (ltb-true (m * up e * 1) (128 * down e) p))
  where
    less : (a d : ℕ) → a * 1 < 128 * d → a ≤ 128 * d
    less a d h = omega arith
within (fin false m e) p q = le→leb (m * up e) (256 * down e) (less (m * up e) (down e) (ltb-false (127 * 1 * down e) (m * up e * 1) q))
  where
    less : (a d : ℕ) → a * 1 ≤ 127 * 1 * d → a ≤ 256 * d
    less a d h = omega arith

of_low : T (raisable minus128)
unfolding raisable of_bits
of_low = tt

of_high : T (raisable float127)
unfolding raisable of_bits
of_high = tt

pub held_in : (y : Float) → T (raisable (held_of y minus128 float127))
held_in y = held_cases (λ (z : Float). T (raisable z)) y minus128 float127 of_low of_high (within y)

-- ---- the raised floor of what is held
least : (n q : ℕ) → n ≤ q → min q n ≡ n
least n q h = omega arith

own : (n q : ℕ) → q ≤ n → min q n ≡ q
own n q h = omega arith

high : raised_floor float127 ≡ 12583039
unfolding raised_floor of_bits
high = refl

low : raised_floor (cond (lt float127 minus128) float127 minus128) ≡ 12582784
unfolding raised_floor lt of_bits
low = refl

raised_plus : (m : ℕ) (e : ℤ) → raised_floor (held_of (fin false m e) minus128 float127) ≡ 12582912 + min (m * up e / down e) 127
unfolding held_of lt of_bits
raised_plus m e =
    ap (λ (p : Bool). raised_floor (cond (lt float127 (cond p (fin false m e) minus128)) float127 (cond p (fin false m e) minus128))) (lt-ltb 0 (128 * down e + m * up e * 1) (some (down e) (m * up e * 1) (down_pos e)))
    ∙ second (ltb (127 * 1 * down e) (m * up e * 1)) refl
  where
    some : (d a : ℕ) → 0 < d → 0 < 128 * d + a
    some d a h = omega arith

    most : (a d : ℕ) → 127 * 1 * d < a * 1 → 127 * d ≤ a
    most a d h = omega arith

    few : (a d : ℕ) → 0 < d → a * 1 ≤ 127 * 1 * d → a < 128 * d
    few a d p h = omega arith

    second : (q : Bool) → ltb (127 * 1 * down e) (m * up e * 1) ≡ q → raised_floor (cond q float127 (fin false m e)) ≡ 12582912 + min (m * up e / down e) 127
    second true f = high ∙ sym (ap (λ (n : ℕ). 12582912 + n) (least 127 (m * up e / down e) ((le-div_iff_mul-le (down_pos e)).1 (most (m * up e) (down e) (ltb-true (127 * 1 * down e) (m * up e * 1) f)))))
    second false f = unfold raised_floor in sym (ap (λ (n : ℕ). 12582912 + n) (own 127 (m * up e / down e) (le_of_suc-le-suc ((div-lt_iff_lt-mul (down_pos e)).1 (few (m * up e) (down e) (down_pos e) (ltb-false (127 * 1 * down e) (m * up e * 1) f))))))

raised_minus : (m : ℕ) (e : ℤ) → raised_floor (held_of (fin true m e) minus128 float127) ≡ 12582912 - min (floor_part true m e) 128
unfolding held_of lt of_bits
raised_minus m e = first (ltb (m * up e * 1) (128 * down e)) refl
  where
    under : (a d : ℕ) → a * 1 < 128 * d → a ≤ 128 * d
    under a d h = omega arith

    over : (a d : ℕ) → 128 * d ≤ a * 1 → 128 * d ≤ a
    over a d h = omega arith

    first : (p : Bool) → ltb (m * up e * 1) (128 * down e) ≡ p → raised_floor (cond (lt float127 (cond p (fin true m e) minus128)) float127 (cond p (fin true m e) minus128)) ≡ 12582912 - min (floor_part true m e) 128
    first true f =
        unfold raised_floor in
        sym (ap (λ (n : ℕ). 12582912 - n) (own 128 (floor_part true m e) (fewer (m * up e) (down e) (floor_part true m e) (down_pos e) (under (m * up e) (down e) (ltb-true (m * up e * 1) (128 * down e) f)) (floor_below_zero m e).1)))
    first false f =
        low
        ∙ sym (ap (λ (n : ℕ). 12582912 - n) (least 128 (floor_part true m e)
        (le_of_mul-le-mul_right (le_trans (over (m * up e) (down e) (ltb-false (m * up e * 1) (128 * down e) f)) (floor_below_zero m e).0) (down_pos e))))

-- ---- the clamped floor
not_below : (x : Float) (n : ℕ) → HasValue x false n 1 → lt x minus128 ≡ false
unfolding lt of_bits
not_below nan n v = absurd v
not_below (inf s) n v = absurd v
not_below (fin true m e) n v = absurd (true≢false v.0)
not_below (fin false m e) n v = refl

not_above : (x : Float) (n : ℕ) → HasValue x true n 1 → lt float127 x ≡ false
unfolding lt of_bits
not_above nan n v = absurd v
not_above (inf s) n v = absurd v
not_above (fin true m e) n v = refl
not_above (fin false m e) n v = absurd (true≢false (sym v.0))

below_whole : (x : Float) (n : ℕ) → HasValue x true n 1 → lt x minus128 ≡ ltb 128 n
unfolding lt of_bits
below_whole nan n v = absurd v
below_whole (inf s) n v = absurd v
below_whole (fin true m e) n v = test_same 128 (m * up e) (down e) n (down_pos e) v.1
below_whole (fin false m e) n v = absurd (true≢false (sym v.0))

float_127 : round binary32 false 127 1 ≡ float127
unfolding round of_bits
float_127 = refl

float_minus128 : round binary32 true 128 1 ≡ cond (lt float127 minus128) float127 minus128
unfolding round lt of_bits
float_minus128 = refl

floor_is : (s : Bool) (m : ℕ) (e : ℤ) → floor_of (fin s m e) ≡ round binary32 s (floor_part s m e) 1
unfolding floor_of
floor_is s m e = refl

above_127 : (x : Float) (n : ℕ) → HasValue x false n 1 → lt float127 x ≡ ltb 127 n
unfolding of_bits
above_127 x n v = above_whole x n 127 v

clamp_plus : (m : ℕ) (e : ℤ) → T (fits binary32 (fin false m e)) → clamp_of (floor_of (fin false m e)) minus128 float127 ≡ round binary32 false (min (m * up e / down e) 127) 1
unfolding clamp_of
clamp_plus m e p =
    let q = m * up e / down e in
    let f = floor_of (fin false m e) in
    let v = floor_exact false m e p in
    ap (λ (b : Bool). cond (lt float127 (cond b minus128 f)) float127 (cond b minus128 f)) (not_below f q v)
    ∙ ap (λ (b : Bool). cond b float127 f) (above_127 f q v)
    ∙ go (ltb 127 q) refl
  where
    go : (b : Bool) → ltb 127 (m * up e / down e) ≡ b → cond b float127 (floor_of (fin false m e)) ≡ round binary32 false (min (m * up e / down e) 127) 1
    go true t = sym (ap (λ (n : ℕ). round binary32 false n 1) (least 127 (m * up e / down e) (le_of_lt (ltb-true 127 (m * up e / down e) t))) ∙ float_127)
    go false t = floor_is false m e ∙ sym (ap (λ (n : ℕ). round binary32 false n 1) (own 127 (m * up e / down e) (ltb-false 127 (m * up e / down e) t)))

clamp_minus : (m : ℕ) (e : ℤ) → T (fits binary32 (fin true m e)) → clamp_of (floor_of (fin true m e)) minus128 float127 ≡ round binary32 true (min (floor_part true m e) 128) 1
unfolding clamp_of
clamp_minus m e p =
    let f = floor_of (fin true m e) in
    let v = floor_exact true m e p in
    ap (λ (b : Bool). cond (lt float127 (cond b minus128 f)) float127 (cond b minus128 f)) (below_whole f (floor_part true m e) v) ∙ go (ltb 128 (floor_part true m e)) refl
  where
    go : (b : Bool) → ltb 128 (floor_part true m e) ≡ b → cond (lt float127 (cond b minus128 (floor_of (fin true m e)))) float127 (cond b minus128 (floor_of (fin true m e))) ≡ round binary32 true (min (floor_part true m e) 128) 1
    go true t = sym (ap (λ (n : ℕ). round binary32 true n 1) (least 128 (floor_part true m e) (le_of_lt (ltb-true 128 (floor_part true m e) t))) ∙ float_minus128)
    go false t =
        ap (λ (b : Bool). cond b float127 (floor_of (fin true m e))) (not_above (floor_of (fin true m e)) (floor_part true m e) (floor_exact true m e p))
        ∙ floor_is true m e
        ∙ sym (ap (λ (n : ℕ). round binary32 true n 1) (own 128 (floor_part true m e) (ltb-false 128 (floor_part true m e) t)))

-- ---- wrapping
wrap_plus : (k : ℕ) → k ≤ 127 → wrapped (to_signed 7 (round binary32 false k 1)) ≡ (1249902592 + (12582912 + k)) % 256
unfolding of_int
wrap_plus k h = ap wrapped (positive_back binary32 7 k (exact k (few k h)) (under k h)).1 ∙ rest k h
  where
    few : (k : ℕ) → k ≤ 127 → k ≤ 16777216
    few k h = omega arith

    under : (k : ℕ) → k ≤ 127 → k < 128
    under k h = omega arith

    rest : (k : ℕ) → k ≤ 127 → k ≡ (1249902592 + (12582912 + k)) % 256
    rest k h = omega arith

wrap_minus : (k : ℕ) → k ≤ 128 → wrapped (to_signed 7 (round binary32 true k 1)) ≡ (1249902592 + (12582912 - k)) % 256
unfolding of_int in_float
wrap_minus zero h = unfold to_signed round in refl
wrap_minus (suc k) h = ap wrapped (negative_back binary32 7 k (lt→ltb k 16777216 (few k h)) h).1 ∙ rest k h
  where
    few : (k : ℕ) → suc k ≤ 128 → k < 16777216
    few k h = omega arith

    rest : (k : ℕ) → suc k ≤ 128 → 255 - k ≡ (1249902592 + (12582912 - suc k)) % 256
    rest k h = omega arith

-- ---- both parts of the place
abbrev Same : Float → Type 0
Same y =
    ((1249902592 + raised_floor (held_of y minus128 float127)) % 256 ≡ wrapped (to_signed 7 (clamp_of (floor_of y) minus128 float127)))
    × (add binary32 y (of_int binary32 (minus 12582912 (raised_floor (held_of y minus128 float127)))) ≡ sub binary32 y (clamp_of (floor_of y) minus128 float127))

-- from the raised floor n and the clamped floor c to both
both : (y c : Float) (n : ℕ) → raised_floor (held_of y minus128 float127) ≡ n → clamp_of (floor_of y) minus128 float127 ≡ c → wrapped (to_signed 7 c) ≡ (1249902592 + n) % 256 → add binary32 y (of_int binary32 (minus 12582912 n)) ≡ sub binary32 y c → Same y
both y c n h k t d = (ap (λ (z : ℕ). (1249902592 + z) % 256) h ∙ sym t ∙ ap (λ (x : Float). wrapped (to_signed 7 x)) (sym k), ap (λ (z : ℕ). add binary32 y (of_int binary32 (minus 12582912 z))) h ∙ d ∙ ap (sub binary32 y) (sym k))

at_inf : (s : Bool) → Same (inf s)
unfolding raised_floor to_signed held_of clamp_of floor_of lt add sub neg of_int of_bits
at_inf true = (refl, refl)
at_inf false = (refl, refl)

at_most : (n q : ℕ) → min q n ≤ n
at_most n q = omega arith

pub placed : (y : Float) → T (fits binary32 y) → T (not (is_nan y)) → Same y
unfolding is_nan
placed nan p t = absurd t
placed (inf s) p t = at_inf s
placed (fin true m e) p t =
    let k = min (floor_part true m e) 128 in
    both (fin true m e) (round binary32 true k 1) (12582912 - k) (raised_minus m e) (clamp_minus m e p) (wrap_minus k (at_most 128 (floor_part true m e))) (off_minus 12582912 k (fin true m e) (le_trans (at_most 128 (floor_part true m e)) (lit≤ tt)))
placed (fin false m e) p t =
    let k = min (m * up e / down e) 127 in
    both (fin false m e) (round binary32 false k 1) (12582912 + k) (raised_plus m e) (clamp_plus m e p) (wrap_plus k (at_most 127 (m * up e / down e))) (off_plus 12582912 k m e)

-- NaN reads entry 0
pub nan_place : (wrapped (to_signed 7 (clamp_of (floor_of nan) minus128 float127)) ≡ 0) × (sub binary32 nan (clamp_of (floor_of nan) minus128 float127) ≡ nan)
unfolding to_signed clamp_of floor_of lt add sub neg of_bits
nan_place = (refl, refl)
