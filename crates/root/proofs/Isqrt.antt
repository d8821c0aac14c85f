-- `isqrt n` is the largest whole number whose square is at most n: twice the root of n / 4 leaves one binary digit to find, and the test in `digits` finds it.
-- Assumes nothing.
use mathlib.Core.Path.{◌≡◌, sym, ap, ◌∙◌, subst}
use Prim.Native.Nat.{ℕ, zero, suc, ◌+◌, ◌*◌, ◌/◌, ◌^◌, ◌≤◌, ◌<◌}
use native.Mathlib.Nat.{le_trans, le_of_eq, le_of_suc-le-suc, lt_of_le_of_lt, lt_of_lt_of_le, zero-lt-suc, mul-mul-mul_comm, mul-le-mul_right, mul-lt-mul_of_pos_right, mul-pos, pow-suc, pow-le-pow_left, div-lt_iff_lt-mul, div-mul-le_self, mul_comm}
use native.Mathlib.Numerals.{add-one}
use native.Mathlib.Omega.{arith}
use mathlib.Core.Bool.{Bool, true, false, not, cond}
use lib.Dec.{T, leb, leb→le, nleb→lt}
use lib.Ieee.{size}
use lib.Ieee.Digits.{size-lt}
use Rattle.root.specs.Root.{digits, isqrt}
use Rattle.root.proofs.Squares.{sq_lt_back}

abbrev pub Root : ℕ → ℕ → Type 0
Root n s = (s * s ≤ n) × (n < (s + 1) * (s + 1))

-- with the square of a number known as a product, what `omega` needs of its double
double : (s : ℕ) → 2 * s * (2 * s) ≡ s * s * 4
double s = mul-mul-mul_comm 2 s 2 s ∙ mul_comm 4 (s * s)

next_double : (s : ℕ) → 2 * s + 1 + 1 ≡ 2 * (s + 1)
next_double s = omega arith

digits_root : (d n : ℕ) → n < 4 ^ d → Root n (digits d n)
unfolding digits
digits_root zero n h = (omega arith, omega arith)
digits_root (suc d) n h =
    let s = digits d (n / 4) in
    let ih = digits_root d (n / 4) ((div-lt_iff_lt-mul (zero-lt-suc 3)).1 (subst (λ (z : ℕ). n < z) (pow-suc 4 d) h)) in
    let lo : 2 * s * (2 * s) ≤ n = le_trans (le_of_eq (double s)) (le_trans (mul-le-mul_right 4 ih.0) (div-mul-le_self n 4)) in
    let hi : n < (2 * s + 1 + 1) * (2 * s + 1 + 1) =
    lt_of_lt_of_le ((div-lt_iff_lt-mul (zero-lt-suc 3)).0 ih.1) (le_of_eq (sym (ap (λ (z : ℕ). z * z) (next_double s) ∙ double (s + 1)))) in
    go (2 * s) (leb ((2 * s + 1) * (2 * s + 1)) n) (leb→le ((2 * s + 1) * (2 * s + 1)) n) (nleb→lt ((2 * s + 1) * (2 * s + 1)) n) lo hi
  where
    go : (r : ℕ) (b : Bool) → (T b → (r + 1) * (r + 1) ≤ n) → (T (not b) → n < (r + 1) * (r + 1)) → r * r ≤ n → n < (r + 1 + 1) * (r + 1 + 1) → Root n (cond b (r + 1) r)
    go r true a b lo hi = (a tt, hi)
    go r false a b lo hi = (lo, b tt)

pub isqrt_root : (n : ℕ) → Root n (isqrt n)
unfolding isqrt
isqrt_root n = digits_root (size n) n (lt_of_lt_of_le (size-lt n) (pow-le-pow_left {n = 2} {m = 4} (omega arith) (size n)))

-- ---- what is at most the root, and what is above it
le_isqrt : (a n : ℕ) → a * a ≤ n → a ≤ isqrt n
le_isqrt a n h = le_of_suc-le-suc (subst (λ (z : ℕ). a < z) (add-one (isqrt n)) (sq_lt_back {a = a} {b = isqrt n + 1} (lt_of_le_of_lt h (isqrt_root n).1)))

isqrt_lt : (a n : ℕ) → n < a * a → isqrt n < a
isqrt_lt a n h = sq_lt_back {a = isqrt n} {b = a} (lt_of_le_of_lt (isqrt_root n).0 h)

-- ---- the same of a W that is scaled by the square of u
pub scaled_le : (a W u : ℕ) → a * a ≤ W → a * u ≤ isqrt (W * (u * u))
scaled_le a W u h = le_isqrt (a * u) (W * (u * u)) (le_trans (le_of_eq (mul-mul-mul_comm a u a u)) (mul-le-mul_right (u * u) h))

pub scaled_lt : (a W u : ℕ) → 0 < u → W < a * a → isqrt (W * (u * u)) < a * u
scaled_lt a W u U h = isqrt_lt (a * u) (W * (u * u)) (lt_of_lt_of_le (mul-lt-mul_of_pos_right h (mul-pos U U)) (le_of_eq (sym (mul-mul-mul_comm a u a u))))
