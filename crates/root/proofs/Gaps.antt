-- How far binary32's values are from each other, and what that says of squares: in units, q * 2 ^ k with a q of 24 digits has its next value above at (q + 1) * 2 ^ k, and below at (q - 1) * 2 ^ k or,
-- where q is 2 ^ 23, at some finer place. With q nearest to the root of W, each middle is then on the other side of the root of W * 4 ^ k. Assumes nothing.
use mathlib.Core.Path.{◌≡◌, sym, ap, ◌∙◌, subst}
use mathlib.Core.Logic.{inl, inr}
use Prim.Native.Nat.{ℕ, zero, suc, ◌+◌, ◌-◌, ◌*◌, ◌^◌, ◌≤◌, ◌<◌}
use native.Mathlib.Nat.{le_trans, le_of_eq, le_of_lt, le_of_suc-le-suc, lt_of_le_of_lt, lt_of_lt_of_le, not-le_of_lt, mul_assoc, mul-le-mul_right, lt_of_mul-lt-mul_right, mul-mul-mul_comm, add-mul, sub-add_cancel}
use native.Mathlib.Numerals.{add-one}
use native.Mathlib.Omega.{arith}
use lib.Dec.{lit<}
use lib.Pow.{pow-add, pow_pos, pow_mono, shl_lt}
use Rattle.root.specs.Root.{isqrt}
use Rattle.root.specs.Steps.{Near}
use Rattle.root.proofs.Squares.{either, sq_mono, sq_lt, sq_suc, odd_square, scaled_above, scaled_below}
use Rattle.root.proofs.Isqrt.{isqrt_root}

-- ---- from q * 2 ^ k to any value M * 2 ^ j
step_up : (A q u : ℕ) → q * u < A * u → (q + 1) * u ≤ A * u
step_up A q u h = mul-le-mul_right u (le_trans (le_of_eq (add-one q)) (lt_of_mul-lt-mul_right u h))

coarse : (M j k : ℕ) → k ≤ j → M * 2 ^ j ≡ M * 2 ^ (j - k) * 2 ^ k
coarse M j k h = ap (λ (z : ℕ). M * 2 ^ z) (sym (sub-add_cancel h)) ∙ ap (λ (z : ℕ). M * z) (pow-add 2 (j - k) k) ∙ sym (mul_assoc M (2 ^ (j - k)) (2 ^ k))

-- a value of a finer unit is below every q
fine : (M j k : ℕ) → M < 2 ^ 24 → j < k → M * 2 ^ j < 8388608 * 2 ^ k
fine M j k h l = lt_of_lt_of_le (shl_lt 24 j h) (le_trans (pow_mono {i = 24 + j} {j = 23 + k} (omega arith)) (le_of_eq (pow-add 2 23 k)))

gap_above : (q k M j : ℕ) → 2 ^ 23 ≤ q → M < 2 ^ 24 → q * 2 ^ k < M * 2 ^ j → (q + 1) * 2 ^ k ≤ M * 2 ^ j
gap_above q k M j lo h l =
    elim (either k j) [
      | inl g ↦ subst (λ (z : ℕ). (q + 1) * 2 ^ k ≤ z) (sym (coarse M j k g)) (step_up (M * 2 ^ (j - k)) q (2 ^ k) (subst (λ (z : ℕ). q * 2 ^ k < z) (coarse M j k g) l))
      | inr g ↦ absurd (not-le_of_lt (lt_of_lt_of_le (fine M j k h g) (mul-le-mul_right (2 ^ k) lo)) (le_of_lt l))
    ]

gap_below : (p k M j : ℕ) → 2 ^ 23 ≤ p → M < 2 ^ 24 → M * 2 ^ j < suc p * 2 ^ k → M * 2 ^ j ≤ p * 2 ^ k
gap_below p k M j lo h l =
    elim (either k j) [
      | inl g ↦
          subst (λ (z : ℕ). z ≤ p * 2 ^ k) (sym (coarse M j k g))
          (mul-le-mul_right (2 ^ k) (le_of_suc-le-suc (lt_of_mul-lt-mul_right (2 ^ k) {m = M * 2 ^ (j - k)} {n = suc p} (subst (λ (z : ℕ). z < suc p * 2 ^ k) (coarse M j k g) l))))
      | inr g ↦ le_of_lt (lt_of_lt_of_le (fine M j k h g) (mul-le-mul_right (2 ^ k) lo))
    ]

-- ---- the squares
above_sq : (W q u Y : ℕ) → 0 < u → Near W q → (q + 1) * u ≤ Y → 4 * (W * (u * u)) < (q * u + Y) * (q * u + Y)
above_sq W q u Y U h g =
    let e = odd_square q in
    let s : (2 * q + 1) * u ≡ q * u + (q + 1) * u = ap (λ (z : ℕ). z * u) two ∙ add-mul q (q + 1) u in
    lt_of_lt_of_le (scaled_above W (2 * q + 1) u U (omega arith))
    (sq_mono {a = (2 * q + 1) * u} {b = q * u + Y} (le_trans (le_of_eq s) (omega (arith, g))))
  where
    two : 2 * q + 1 ≡ q + (q + 1)
    two = omega arith

pub above_all : (W q k M j : ℕ) → 2 ^ 23 ≤ q → Near W q → M < 2 ^ 24 → q * 2 ^ k < M * 2 ^ j → 4 * (W * (2 ^ k * 2 ^ k)) < (q * 2 ^ k + M * 2 ^ j) * (q * 2 ^ k + M * 2 ^ j)
above_all W q k M j lo h m l = above_sq W q (2 ^ k) (M * 2 ^ j) (pow_pos k) h (gap_above q k M j lo m l)

below_sq : (W p u Y : ℕ) → 0 < u → Near W (suc p) → Y ≤ p * u → (suc p * u + Y) * (suc p * u + Y) < 4 * (W * (u * u))
below_sq W p u Y U h g =
    let e = odd_square p in
    let f = sq_suc p in
    let s : (2 * p + 1) * u ≡ suc p * u + p * u = ap (λ (z : ℕ). z * u) two ∙ add-mul (suc p) p u in
    lt_of_le_of_lt (sq_mono {a = suc p * u + Y} {b = (2 * p + 1) * u} (le_trans (omega (arith, g)) (le_of_eq (sym s))))
    (scaled_below W (2 * p + 1) u U (omega arith))
  where
    two : 2 * p + 1 ≡ suc p + p
    two = omega arith

-- at a power of two the values below are closer, and the root is not below it
least_sq : (W u Y : ℕ) → 0 < u → 2 ^ 46 ≤ W → Y < 8388608 * u → (8388608 * u + Y) * (8388608 * u + Y) < 4 * (W * (u * u))
least_sq W u Y U h g =
    let R = 8388608 * u in
    let s : 16777216 * u ≡ R + R = add-mul 8388608 8388608 u in
    lt_of_lt_of_le (sq_lt (R + Y) (16777216 * u) (subst (λ (z : ℕ). R + Y < z) (sym s) (omega (arith, g))))
    (le_trans (le_of_eq (mul-mul-mul_comm 16777216 u 16777216 u)) (le_trans (mul-le-mul_right {m = 281474976710656} {n = 4 * W} (u * u) (omega arith)) (le_of_eq (mul_assoc 4 W (u * u)))))

pub below_all : (W q k M j : ℕ) → 2 ^ 46 ≤ W → 2 ^ 23 ≤ q → Near W q → M < 2 ^ 24 → M * 2 ^ j < q * 2 ^ k
    → (q * 2 ^ k + M * 2 ^ j) * (q * 2 ^ k + M * 2 ^ j) < 4 * (W * (2 ^ k * 2 ^ k))
below_all W zero k M j w lo h m l = absurd (not-le_of_lt (lit< {m = 0} {n = 8388608} tt) lo)
below_all W (suc p) k M j w lo h m l =
    elim (either 8388608 p) [
      | inl g ↦ below_sq W p (2 ^ k) (M * 2 ^ j) (pow_pos k) h (gap_below p k M j g m l)
      | inr g ↦
          let e : suc p ≡ 8388608 = omega arith in
          subst (λ (z : ℕ). (z * 2 ^ k + M * 2 ^ j) * (z * 2 ^ k + M * 2 ^ j) < 4 * (W * (2 ^ k * 2 ^ k))) (sym e)
          (least_sq W (2 ^ k) (M * 2 ^ j) (pow_pos k) w (subst (λ (z : ℕ). M * 2 ^ j < z * 2 ^ k) e l))
    ]

-- ---- the nearest whole root there is
pub near_of : (W : ℕ) → 0 < W → (q : ℕ) × Near W q
near_of W p =
    let s = isqrt W in
    let h = isqrt_root W in
    let e : (s + 1) * (s + 1) ≡ s * s + s + suc s = ap (λ (z : ℕ). z * z) (add-one s) ∙ sq_suc s in
    elim (either W (s * s + s)) [
      | inl g ↦ (s, record { above = under s h.0 g; below = g })
      | inr g ↦ (suc s, record { above = subst (λ (z : ℕ). z < W + suc s) (sym (sq_suc s)) (omega arith); below = subst (λ (z : ℕ). W ≤ z + suc s) (sym (sq_suc s)) (omega arith) })
    ]
  where
    none : (W : ℕ) → 0 < W → W ≤ 0 → ⊥
    none W p h = omega arith

    under : (s : ℕ) → s * s ≤ W → W ≤ s * s + s → s * s < W + s
    under zero a b = absurd (none W p b)
    under (suc s) a b = omega arith
