-- The root of a value above zero is the nearest of binary32's values, in the words of `specs/Closest.antt`: it is q * 2 ^ k units for the q nearest to the root of W, and `Gaps` compares it with every other.
-- This is of the definition `root_of`, and cites no program. Assumes nothing.
use mathlib.Core.Path.{◌≡◌, refl, sym, ap, ◌∙◌, subst}
use mathlib.Core.Logic.{inl, inr}
use Prim.Native.Nat.{ℕ, ◌+◌, ◌-◌, ◌*◌, ◌/◌, ◌%◌, ◌^◌, ◌≤◌, ◌<◌}
use native.Mathlib.Nat.{le_antisymm, lt_of_le_of_lt, lt_of_lt_of_le, mul-pos, mul-lt-mul_of_pos_right}
use native.Mathlib.Omega.{arith}
use mathlib.Core.Bool.{true, false}
use lib.IntN.{ℤ}
use lib.Dec.{T, lit<, lit≤}
use lib.Pow.{pow_pos}
use lib.Ieee.{Float, nan, inf, fin, binary32, units, of_bits, to_bits, fits}
use lib.Ieee.Bits.{of_bits-to_bits}
use lib.Ieee.Scale.{finite}
use lib.Ieee.Positive.{positive}
use Rattle.root.specs.Root.{root_of, in_units}
use Rattle.root.specs.RootLaws.{root_fits}
use Rattle.root.specs.UnitLaws.{in_units_lem, few_digits, units_are, units_below}
use Rattle.root.specs.Steps.{Near, Wide, Placed}
use Rattle.root.specs.Closest.{Farther, above, below, negative, Closest}
use Rattle.root.proofs.Squares.{either, sq_mono}
use Rattle.root.proofs.Patterns.{bits, bits_are, positive_bits, units_value, units_positive}
use Rattle.root.proofs.Rounded.{near_lo, near_hi, rounded}
use Rattle.root.proofs.Place.{wide_even, wide_odd, normal_placed, subnormal_placed}
use Rattle.root.proofs.Signs.{in_range_lem, root_positive}
use Rattle.root.proofs.Gaps.{above_all, below_all, near_of}

-- ---- the root of a value above zero: q * 2 ^ k units
record Rooting (x : Float) : Type 0 where
  W : ℕ
  k : ℕ
  q : ℕ
  n_is : in_units x * 2 ^ 149 ≡ W * (2 ^ k * 2 ^ k)
  wide_lo : 2 ^ 46 ≤ W
  q_lo : 2 ^ 23 ≤ q
  near : Near W q
  r_above : T (positive (root_of x))
  r_is : in_units (root_of x) ≡ q * 2 ^ k

rooting : (b n w : ℕ) → T (positive (of_bits binary32 b)) → Placed b n → Wide (n % 16777216) w → Rooting (of_bits binary32 b)
rooting b n w p t v =
    let x = of_bits binary32 b in
    let k = n / 16777216 in
    let small = t.small in
    let K : k < 254 = omega arith in
    let g = near_of w (lt_of_lt_of_le {n = 0} {m = 70368744177664} (lit< tt) v.lo) in
    let q = g.0 in
    let lo : 2 ^ 23 ≤ q = near_lo w q v.lo g.1 in
    let hi : q < 2 ^ 24 = near_hi w q v.hi g.1 in
    let e : in_units x * 2 ^ 149 ≡ w * (2 ^ k * 2 ^ k) = t.is ∙ v.is n refl in
    let r : units binary32 false q k ≡ root_of x = sym (root_positive x p ∙ rounded (in_units x) w k v.lo (lt_of_le_of_lt v.hi (lit< tt)) e q g.1) in
    record {
      W = w;
      k = k;
      q = q;
      n_is = e;
      wide_lo = v.lo;
      q_lo = lo;
      near = g.1;
      r_above = subst (λ (y : Float). T (positive y)) r (units_positive k q (lt_of_lt_of_le {n = 0} {m = 8388608} (lit< tt) lo) hi K);
      r_is = ap in_units (sym r) ∙ in_units_lem (units binary32 false q k) false (q * 2 ^ k) (units_value k q hi K);
    }

widened : (n : ℕ) → (w : ℕ) × Wide (n % 16777216) w
widened n =
    let z = n % 16777216 in
    elim (either 8388608 z) [
      | inl h ↦ (z * 2 * 8388608, wide_odd z h (omega arith))
      | inr h ↦ ((z + 8388608) * 8388608, wide_even z h)
    ]

carried : (b : ℕ) → 0 < b → b < 2139095040 → (n : ℕ) × Placed b n
carried b p h = elim (either 8388608 b) [ inl g ↦ (b + 1048576000, normal_placed b g h) | inr g ↦ (_, subnormal_placed b p g) ]

rooting_at : (x : Float) → T (fits binary32 x) → T (positive x) → Rooting x
rooting_at x f p =
    let e = of_bits-to_bits binary32 x f in
    let b = to_bits binary32 x in
    let h = in_range_lem x f p in
    let n = carried b h.0 h.1 in
    let w = widened n.0 in
    subst Rooting e (rooting b n.0 w.0 (subst (λ (y : Float). T (positive y)) (sym e) p) n.1 w.1)

-- ---- the other values
-- two values above zero of the same units are the same
same : (m : ℕ) (e : ℤ) (r : Float) → T (fits binary32 (fin false m e)) → T (fits binary32 r) → T (positive r) → in_units (fin false m e) ≡ in_units r → fin false m e ≡ r
same m e r f g p h =
    sym (of_bits-to_bits binary32 (fin false m e) f) ∙ ap (of_bits binary32) (bits_are m e ∙ ap bits h ∙ sym (positive_bits r p)) ∙ of_bits-to_bits binary32 r g

module _ (x : Float) (g : Rooting x) where
  n_is : 4 * (in_units x * 2 ^ 149) ≡ 4 * (g.W * (2 ^ g.k * 2 ^ g.k))
  n_is = ap (λ (z : ℕ). 4 * z) g.n_is

  is_above : (m : ℕ) (e : ℤ) → T (fits binary32 (fin false m e)) → in_units (root_of x) < in_units (fin false m e) → Farther (in_units x * 2 ^ 149) (in_units (root_of x)) (fin false m e)
  is_above m e f l =
      let v = units_are false m e f in
      above m e l (rw (n_is, g.r_is, v.1) (above_all g.W g.q g.k m v.0 g.q_lo g.near (few_digits false m e f) (rw (g.r_is, v.1) at l)))

  is_below : (m : ℕ) (e : ℤ) → T (fits binary32 (fin false m e)) → in_units (fin false m e) < in_units (root_of x) → Farther (in_units x * 2 ^ 149) (in_units (root_of x)) (fin false m e)
  is_below m e f l =
      let v = units_are false m e f in
      below m e l (rw (n_is, g.r_is, v.1) (below_all g.W g.q g.k m v.0 g.wide_lo g.q_lo g.near (few_digits false m e f) (rw (v.1, g.r_is) at l)))

  is_negative : (m : ℕ) (e : ℤ) → Farther (in_units x * 2 ^ 149) (in_units (root_of x)) (fin true m e)
  is_negative m e =
      let Y = in_units (fin true m e) in
      let R = g.q * 2 ^ g.k in
      let less : R - Y ≤ R + 0 = omega arith in
      let some : 0 < R = mul-pos {m = g.q} {n = 2 ^ g.k} (lt_of_lt_of_le {n = 0} {m = 8388608} (lit< tt) g.q_lo) (pow_pos g.k) in
      negative m e (rw (n_is, g.r_is) (lt_of_le_of_lt (sq_mono {a = R - Y} {b = R + 0} less) (below_all g.W g.q g.k 0 0 g.wide_lo g.q_lo g.near (lit< tt) some)))

  farther : T (fits binary32 (root_of x)) → (y : Float) → T (fits binary32 y) → T (finite y) → (y ≡ root_of x → ⊥) → Farther (in_units x * 2 ^ 149) (in_units (root_of x)) y
  farther h nan f t n = absurd t
  farther h (inf s) f t n = absurd t
  farther h (fin true m e) f t n = is_negative m e
  farther h (fin false m e) f t n =
      let Y = in_units (fin false m e) in
      let R = in_units (root_of x) in
      elim (either Y R) [
        | inr l ↦ is_above m e f l
        | inl a ↦ elim (either R Y) [ inr l ↦ is_below m e f l | inl b ↦ absurd (n (same m e (root_of x) f h g.r_above (le_antisymm a b))) ]
      ]

-- ---- the infinity
under_infinity : (x : Float) → T (fits binary32 x) → T (positive x) → in_units x * 2 ^ 149 < (2 ^ 277 - 2 ^ 252) * (2 ^ 277 - 2 ^ 252)
under_infinity nan f p = absurd p
under_infinity (inf s) f p = absurd p
under_infinity (fin s m e) f p = lt_of_lt_of_le (mul-lt-mul_of_pos_right (units_below s m e f) (pow_pos 149)) (lit≤ tt)

-- ---- for every x that binary32 holds, above zero and finite
pub nearest_root : (x : Float) → T (fits binary32 x) → T (positive x) → Closest x (root_of x)
nearest_root x f p =
    let g = rooting_at x f p in
    let h = root_fits x f in
    record { held = h; above_zero = g.r_above; no_infinity = under_infinity x f p; nearer = farther x g h }
