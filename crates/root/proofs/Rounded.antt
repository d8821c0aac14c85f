-- `root_units` at the root of W * 4 ^ K, for a W of 47 or 48 digits: the 24 digits that it keeps are the whole part of W's root, and it rounds them to the whole number r nearest to W's root.
-- So the result is r * 2 ^ K units. Assumes nothing.
use mathlib.Core.Path.{◌≡◌, refl, sym, ap, ◌∙◌, subst}
use mathlib.Core.Logic.{◌⊎◌, inl, inr}
use Prim.Native.Nat.{ℕ, zero, suc, ◌+◌, ◌-◌, ◌*◌, ◌/◌, ◌^◌, ◌≤◌, ◌<◌, compare, Ordering}
use native.Mathlib.Nat.{le_trans, le_of_eq, le_of_lt, lt_irrefl, le_of_suc-le-suc, lt_of_le_of_lt, lt_of_lt_of_le, lt_of_not-le, not-le_of_lt, div-eq_of_lt-le}
use native.Mathlib.Numerals.{add-one}
use native.Mathlib.Omega.{arith}
use mathlib.Core.Bool.{false, not}
use lib.Dec.{T, is_le, compare_is_eq, leb→le, nleb→lt, eqb→eq, lit<}
use lib.Pow.{pow-add, pow_pos}
use lib.Ieee.{Float, binary32, size, nearest, units, of_bits}
use Rattle.root.specs.Root.{isqrt, against_middle, root_units}
use Rattle.root.specs.Steps.{Near}
use Rattle.root.proofs.Squares.{either, sq_lt_back, sq_mono, sq_suc, odd_square, scaled_above, scaled_below}
use Rattle.root.proofs.Isqrt.{Root, scaled_le, scaled_lt}
use Rattle.root.proofs.Patterns.{dropped, normal}

-- ---- `compare`, where the order is known
compare-lt : (a b : ℕ) → a < b → compare a b ≡ Ordering.lt
compare-lt a b h = go (compare a b) (nleb→lt a b) (eqb→eq a b)
  where
    go : (o : Ordering) → (T (not (is_le o)) → b < a) → (T (compare_is_eq o) → a ≡ b) → o ≡ Ordering.lt
    go Ordering.lt g e = refl
    go Ordering.eq g e = absurd (lt_irrefl b (subst (λ (z : ℕ). z < b) (e tt) h))
    go Ordering.gt g e = absurd (not-le_of_lt h (le_of_lt (g tt)))

compare_gt : (a b : ℕ) → b < a → compare a b ≡ Ordering.gt
compare_gt a b h = go (compare a b) (leb→le a b)
  where
    go : (o : Ordering) → (T (is_le o) → a ≤ b) → o ≡ Ordering.gt
    go Ordering.lt l = absurd (not-le_of_lt h (l tt))
    go Ordering.eq l = absurd (not-le_of_lt h (l tt))
    go Ordering.gt l = refl

-- ---- the digits that are kept
module _ (W K : ℕ) (lo : 2 ^ 46 ≤ W) (hi : W < 2 ^ 48) where
  drops : size (isqrt (W * (2 ^ K * 2 ^ K))) - 24 ≡ K
  drops =
      dropped (isqrt (W * (2 ^ K * 2 ^ K))) K
      (le_trans (le_of_eq (pow-add 2 23 K)) (scaled_le 8388608 W (2 ^ K) lo))
      (lt_of_lt_of_le (scaled_lt 16777216 W (2 ^ K) (pow_pos K) hi) (le_of_eq (sym (pow-add 2 24 K))))

  keeps : (q : ℕ) → Root W q → isqrt (W * (2 ^ K * 2 ^ K)) / 2 ^ K ≡ q
  keeps q h = div-eq_of_lt-le (2 ^ K) (scaled_le q W (2 ^ K) h.0) (scaled_lt (q + 1) W (2 ^ K) (pow_pos K) h.1)

-- `root_units` from its n, k and q on
abbrev tail : ℕ → ℕ → ℕ → Float
tail n k q = units binary32 false (nearest q (against_middle n q k)) k

root_is : (N : ℕ) → root_units binary32 N ≡ tail (N * 2 ^ 149) (size (isqrt (N * 2 ^ 149)) - 24) (isqrt (N * 2 ^ 149) / 2 ^ (size (isqrt (N * 2 ^ 149)) - 24))
unfolding root_units
root_is N = refl

-- ---- r is the whole part of W's root, or one more
at_whole : (W K r : ℕ) → Near W r → r * r ≤ W → Root W r × (nearest r (against_middle (W * (2 ^ K * 2 ^ K)) r K) ≡ r)
unfolding against_middle
at_whole W K r h g =
    let u = 2 ^ K in
    let up : W < (r + 1) * (r + 1) = subst (λ (z : ℕ). W < z * z) (sym (add-one r)) (subst (λ (z : ℕ). W < z) (sym (sq_suc r)) (omega arith)) in
    ((g, up), ap (nearest r) (compare-lt (4 * (W * (u * u))) ((2 * r + 1) * u * ((2 * r + 1) * u)) (scaled_above W (2 * r + 1) u (pow_pos K) (omega (arith, odd_square r)))))

past_whole : (W K p : ℕ) → Near W (suc p) → W < suc p * suc p → Root W p × (nearest p (against_middle (W * (2 ^ K * 2 ^ K)) p K) ≡ suc p)
unfolding against_middle
past_whole W K p h g =
    let u = 2 ^ K in
    let e = sq_suc p in
    let lo : p * p ≤ W = omega arith in
    let up : W < (p + 1) * (p + 1) = subst (λ (z : ℕ). W < z * z) (sym (add-one p)) g in
    ((lo, up), ap (nearest p) (compare_gt (4 * (W * (u * u))) ((2 * p + 1) * u * ((2 * p + 1) * u)) (scaled_below W (2 * p + 1) u (pow_pos K) (omega (arith, odd_square p)))))

-- ---- together
module _ (N W K : ℕ) (lo : 2 ^ 46 ≤ W) (hi : W < 2 ^ 48) (is : N * 2 ^ 149 ≡ W * (2 ^ K * 2 ^ K)) where
  assemble : (q r : ℕ) → Root W q × (nearest q (against_middle (W * (2 ^ K * 2 ^ K)) q K) ≡ r) → root_units binary32 N ≡ units binary32 false r K
  assemble q r h =
      let n = W * (2 ^ K * 2 ^ K) in
      root_is N
      ∙ ap (λ (x : ℕ). tail x (size (isqrt x) - 24) (isqrt x / 2 ^ (size (isqrt x) - 24))) is
      ∙ ap (λ (k : ℕ). tail n k (isqrt n / 2 ^ k)) (drops W K lo hi)
      ∙ ap (λ (x : ℕ). tail n K x) (keeps W K lo hi q h.0)
      ∙ ap (λ (x : ℕ). units binary32 false x K) h.1

  by_square : (r : ℕ) → Near W r → (r * r ≤ W) ⊎ (W < r * r) → root_units binary32 N ≡ units binary32 false r K
  by_square r h (inl g) = assemble r r (at_whole W K r h g)
  by_square zero h (inr g) = absurd (none g)
    where
      none : W < 0 → ⊥
      none g = omega arith
  by_square (suc p) h (inr g) = assemble p (suc p) (past_whole W K p h g)

  pub rounded : (r : ℕ) → Near W r → root_units binary32 N ≡ units binary32 false r K
  rounded r h = by_square r h (either (r * r) W)

-- ---- r has 24 digits, also at the largest W
pub near_lo : (W r : ℕ) → 2 ^ 46 ≤ W → Near W r → 2 ^ 23 ≤ r
near_lo W r lo h = le_of_suc-le-suc (sq_lt_back {a = 8388608} {b = suc r} (subst (λ (x : ℕ). 2 ^ 46 < x) (sym (sq_suc r)) (omega arith)))

pub near_hi : (W r : ℕ) → W ≤ 2 ^ 48 - 2 ^ 24 → Near W r → r < 2 ^ 24
near_hi W zero hi h = lit< tt
near_hi W (suc p) hi h = lt_of_not-le (λ (g : 16777216 ≤ suc p). no (sq_suc p) (sq_mono {a = 16777215} {b = p} (le_of_suc-le-suc g)) (le_of_suc-le-suc g))
  where
    no : suc p * suc p ≡ p * p + p + suc p → 281474943156225 ≤ p * p → 16777215 ≤ p → ⊥
    no e a b = omega arith

-- ---- as a pattern
pub answer : (N W K r : ℕ) → 2 ^ 46 ≤ W → W ≤ 2 ^ 48 - 2 ^ 24 → N * 2 ^ 149 ≡ W * (2 ^ K * 2 ^ K) → Near W r → K < 254 → root_units binary32 N ≡ of_bits binary32 (K * 8388608 + r)
answer N W K r lo hi e h k = rounded N W K lo (lt_of_le_of_lt hi (lit< tt)) e r h ∙ normal K r (near_lo W r lo h) (near_hi W r hi h) k
