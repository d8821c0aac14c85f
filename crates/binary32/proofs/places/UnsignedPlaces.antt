-- The unsigned place, case by case. From zero up both the code and the definition take the smaller of the floor and 255; below zero the entry is 0, and what is taken off is +0, or −0 from −0.
-- Assumes nothing.
use mathlib.Core.Path.{◌≡◌, refl, sym, ap, ◌∙◌, subst}
use mathlib.Core.Bool.{Bool, true, false, cond, true≢false}
use Prim.Native.Nat.{ℕ, zero, suc, ◌*◌, ◌/◌, ◌≤◌, ◌<◌, min}
use native.Mathlib.Nat.{zero-div, div-one, zero-add, mul-pos, zero-lt-suc, lt_of_lt_of_le, le_of_lt, le-div_iff_mul-le}
use native.Mathlib.Omega.{arith}
use borrow.Author.Tests.{ltb-true, ltb-false}
use lib.IntN.{ℤ, pos}
use lib.Dec.{T, ltb, lt→ltb, lit≤}
use lib.Ieee.{Float, nan, inf, fin, binary32, up, down, minus, round, neg, add, sub, lt, of_int, to_unsigned, fits, of_bits}
use lib.Ieee.Back.{round_whole}
use lib.Ieee.Fits.{up_pos, down_pos}
use lib.Ieee.Positive.{first_pos}
use Rattle.binary32.specs.Binary32.{float0, float255, clamp_of, floor_part, floor_of}
use Rattle.binary32.specs.Steps.{held_of, under_byte}
use Rattle.binary32.specs.FloorLaws.{floor_exact, floor_below_zero}
use Rattle.binary32.specs.CompareLaws.{zero_is}
use Rattle.binary32.specs.ByteLaws.{unsigned_value}
use Rattle.binary32.specs.HeldLaws.{held_cases}
use Rattle.binary32.proofs.places.Placing.{off_plus, off_zero, above_whole, not_below_zero, below_zero}

-- ---- what is held is a number that `whole` takes
within : (y : Float) → lt float0 y ≡ true → lt float255 y ≡ false → T (under_byte y)
unfolding lt of_bits under_byte
within nan p q = absurd (true≢false (sym p))
within (inf true) p q = absurd (true≢false (sym p))
within (inf false) p q = absurd (true≢false q)
within (fin true m e) p q = absurd (true≢false (sym p))
within (fin false m e) p q = lt→ltb (m * up e) (256 * down e) (less (m * up e) (down e) (down_pos e) (ltb-false (255 * 1 * down e) (m * up e * 1) q))
  where
    less : (a d : ℕ) → 0 < d → a * 1 ≤ 255 * 1 * d → a < 256 * d
    less a d p h = omega arith

of_0 : T (under_byte float0)
unfolding under_byte of_bits
of_0 = tt

of_255 : T (under_byte float255)
unfolding under_byte of_bits
of_255 = tt

pub held_under : (y : Float) → T (under_byte (held_of y float0 float255))
held_under y = held_cases (λ (z : Float). T (under_byte z)) y float0 float255 of_0 of_255 (within y)

-- ---- the entry that the code finds
least : (q : ℕ) → 255 ≤ q → min q 255 ≡ 255
least q h = omega arith

own : (q : ℕ) → q ≤ 255 → min q 255 ≡ q
own q h = omega arith

entry_plus : (m : ℕ) (e : ℤ) → to_unsigned 8 (held_of (fin false m e) float0 float255) ≡ min (m * up e / down e) 255
unfolding to_unsigned held_of lt of_bits
entry_plus m e = first (ltb (0 * 1 * down e) (m * up e * 1)) refl
  where
    none : (a d : ℕ) → a * 1 ≤ 0 * 1 * d → a ≡ 0
    none a d h = omega arith

    most : (a d : ℕ) → 0 < d → 255 * 1 * d < a * 1 → 255 ≤ a / d
    most a d p h = (le-div_iff_mul-le p).1 (at_least a d h)
      where
        at_least : (a d : ℕ) → 255 * 1 * d < a * 1 → 255 * d ≤ a
        at_least a d h = omega arith

    second : (q : Bool) → ltb (255 * 1 * down e) (m * up e * 1) ≡ q → to_unsigned 8 (cond q float255 (fin false m e)) ≡ min (m * up e / down e) 255
    second true f = sym (least (m * up e / down e) (most (m * up e) (down e) (down_pos e) (ltb-true (255 * 1 * down e) (m * up e * 1) f)))
    second false f = refl

    first : (p : Bool) → ltb (0 * 1 * down e) (m * up e * 1) ≡ p → to_unsigned 8 (cond (lt float255 (cond p (fin false m e) float0)) float255 (cond p (fin false m e) float0)) ≡ min (m * up e / down e) 255
    first true f = second (ltb (255 * 1 * down e) (m * up e * 1)) refl
    first false f = sym (ap (λ (a : ℕ). min (a / down e) 255) (none (m * up e) (down e) (ltb-false (0 * 1 * down e) (m * up e * 1) f)) ∙ ap (λ (a : ℕ). min a 255) (zero-div (down e)))

entry_minus : (m : ℕ) (e : ℤ) → to_unsigned 8 (held_of (fin true m e) float0 float255) ≡ 0
unfolding to_unsigned held_of lt of_bits
entry_minus m e = refl

-- ---- the clamped floor
float_255 : round binary32 false 255 1 ≡ float255
unfolding round of_bits
float_255 = refl

clamp_plus : (m : ℕ) (e : ℤ) → T (fits binary32 (fin false m e)) → clamp_of (floor_of (fin false m e)) float0 float255 ≡ round binary32 false (min (m * up e / down e) 255) 1
unfolding clamp_of of_bits
clamp_plus m e p =
    let q = m * up e / down e in
    let f = floor_of (fin false m e) in
    let v = floor_exact false m e p in
    ap (λ (b : Bool). cond (lt float255 (cond b float0 f)) float255 (cond b float0 f)) (not_below_zero f q v) ∙ go (ltb 255 q) (above_whole f q 255 v) refl
  where
    go : (b : Bool) → lt float255 (floor_of (fin false m e)) ≡ b → ltb 255 (m * up e / down e) ≡ b → cond (lt float255 (floor_of (fin false m e))) float255 (floor_of (fin false m e)) ≡ round binary32 false (min (m * up e / down e) 255) 1
    go true l t =
        ap (λ (b : Bool). cond b float255 (floor_of (fin false m e))) l
        ∙ sym (ap (λ (n : ℕ). round binary32 false n 1) (least (m * up e / down e) (le_of_lt (ltb-true 255 (m * up e / down e) t))) ∙ float_255)
    go false l t = ap (λ (b : Bool). cond b float255 (floor_of (fin false m e))) l ∙ floor_is ∙ sym (ap (λ (n : ℕ). round binary32 false n 1) (own (m * up e / down e) (ltb-false 255 (m * up e / down e) t)))
      where
        floor_is : floor_of (fin false m e) ≡ round binary32 false (m * up e / down e) 1
        floor_is = unfold floor_of in refl

some : (m : ℕ) (e : ℤ) → 0 < floor_part true (suc m) e
some m e = first_pos (floor_part true (suc m) e) (down e) (lt_of_lt_of_le (mul-pos (zero-lt-suc m) (up_pos e)) (floor_below_zero (suc m) e).0)

clamp_0 : cond (lt float255 float0) float255 float0 ≡ round binary32 false 0 1
unfolding round lt of_bits
clamp_0 = refl

clamp_minus : (m : ℕ) (e : ℤ) → T (fits binary32 (fin true (suc m) e)) → clamp_of (floor_of (fin true (suc m) e)) float0 float255 ≡ round binary32 false 0 1
unfolding clamp_of of_bits
clamp_minus m e p =
    let f = floor_of (fin true (suc m) e) in
    ap (λ (b : Bool). cond (lt float255 (cond b float0 f)) float255 (cond b float0 f)) (below_zero f (floor_part true (suc m) e) (floor_exact true (suc m) e p) (some m e)) ∙ clamp_0

-- ---- both parts of the place
round_entry : (k : ℕ) → k ≤ 255 → to_unsigned 8 (round binary32 false k 1) ≡ k
round_entry k h = unsigned_value (round binary32 false k 1) k 1 (zero-lt-suc 0) (round_whole binary32 false k (fit k h)) ∙ ap (λ (z : ℕ). min z 255) (div-one k) ∙ own k h
  where
    fit : (k : ℕ) → k ≤ 255 → k ≤ 16777216
    fit k h = omega arith

at_most : (q : ℕ) → min q 255 ≤ 255
at_most q = omega arith

abbrev Same : Float → Type 0
Same y =
    (to_unsigned 8 (held_of y float0 float255) ≡ to_unsigned 8 (clamp_of (floor_of y) float0 float255))
    × (add binary32 y (of_int binary32 (minus 0 (to_unsigned 8 (held_of y float0 float255)))) ≡ sub binary32 y (clamp_of (floor_of y) float0 float255))

-- from the entry n and the clamped floor c to both
both : (y c : Float) (n : ℕ) → to_unsigned 8 (held_of y float0 float255) ≡ n → clamp_of (floor_of y) float0 float255 ≡ c → to_unsigned 8 c ≡ n → add binary32 y (of_int binary32 (minus 0 n)) ≡ sub binary32 y c → Same y
both y c n h k t d = (h ∙ sym t ∙ ap (to_unsigned 8) (sym k), ap (λ (z : ℕ). add binary32 y (of_int binary32 (minus 0 z))) h ∙ d ∙ ap (sub binary32 y) (sym k))

at_nan : Same nan
unfolding to_unsigned held_of clamp_of floor_of lt add sub neg of_int of_bits
at_nan = (refl, refl)

at_inf : (s : Bool) → Same (inf s)
unfolding to_unsigned held_of clamp_of floor_of lt add sub neg of_int of_bits
at_inf true = (refl, refl)
at_inf false = (refl, refl)

at_minus_zero : Same (fin true 0 (pos 0))
unfolding to_unsigned held_of clamp_of floor_of lt add sub neg of_int of_bits
at_minus_zero = (refl, refl)

pub placed : (y : Float) → T (fits binary32 y) → Same y
placed nan p = at_nan
placed (inf s) p = at_inf s
placed (fin true zero e) p = subst (λ (y : Float). Same y) (sym (zero_is true e p)) at_minus_zero
placed (fin true (suc m) e) p = both (fin true (suc m) e) (round binary32 false 0 1) 0 (entry_minus (suc m) e) (clamp_minus m e p) (round_entry 0 (lit≤ tt)) (off_zero m e)
placed (fin false m e) p =
    let k = min (m * up e / down e) 255 in
    both (fin false m e) (round binary32 false k 1) k (entry_plus m e) (clamp_plus m e p) (round_entry k (at_most (m * up e / down e)))
    (ap (λ (z : ℕ). add binary32 (fin false m e) (of_int binary32 (minus 0 z))) (sym (zero-add k)) ∙ off_plus 0 k m e)
