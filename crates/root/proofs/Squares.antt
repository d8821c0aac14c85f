-- Whole numbers: their order, and that of their squares. Each fact is a law of products, or follows from the square of the next number, worked out once.
-- Assumes nothing.
use mathlib.Core.Path.{◌≡◌, sym, ap, ◌∙◌, subst}
use mathlib.Core.Logic.{◌⊎◌, inl, inr}
use Prim.Native.Nat.{ℕ, zero, suc, ◌+◌, ◌-◌, ◌*◌, ◌≤◌, ◌<◌, zero-le}
use native.Mathlib.Nat.{le_of_eq, le_of_lt, lt_of_le_of_lt, lt_of_lt_of_le, lt_of_not-le, not-le_of_lt, mul-suc, suc-mul, mul_assoc, mul-pos, mul-le-mul, mul-le-mul_left, mul-lt-mul_of_pos_right, mul-mul-mul_comm}
use native.Mathlib.Numerals.{add-one}
use native.Mathlib.Omega.{arith}
use mathlib.Core.Bool.{Bool, true, false, not}
use lib.Dec.{T, leb, leb→le, nleb→lt}

pub either : (a b : ℕ) → (a ≤ b) ⊎ (b < a)
either a b = go (leb a b) (leb→le a b) (nleb→lt a b)
  where
    go : (t : Bool) → (T t → a ≤ b) → (T (not t) → b < a) → (a ≤ b) ⊎ (b < a)
    go true x y = inl (x tt)
    go false x y = inr (y tt)

-- squares keep the order, and tell it
pub sq_mono : {a b : ℕ} → a ≤ b → a * a ≤ b * b
sq_mono h = mul-le-mul h h

pub sq_lt : (a b : ℕ) → a < b → a * a < b * b
sq_lt a b h = lt_of_le_of_lt (mul-le-mul_left a (le_of_lt h)) (mul-lt-mul_of_pos_right h (lt_of_le_of_lt zero-le h))

pub sq_lt_back : {a b : ℕ} → a * a < b * b → a < b
sq_lt_back {a} {b} h = lt_of_not-le (λ (g : b ≤ a). not-le_of_lt h (sq_mono g))

-- the square of the next number, and that of twice a number and one
pub sq_suc : (p : ℕ) → suc p * suc p ≡ p * p + p + suc p
sq_suc p = mul-suc (suc p) p ∙ ap (λ (z : ℕ). z + suc p) (suc-mul p p)

pub odd_square : (q : ℕ) → (2 * q + 1) * (2 * q + 1) ≡ 4 * (q * q) + 4 * q + 1
odd_square q = ap (λ (z : ℕ). z * z) (add-one (2 * q)) ∙ sq_suc (2 * q) ∙ last
  where
    d : 2 * q * (2 * q) ≡ 4 * (q * q)
    d = mul-mul-mul_comm 2 q 2 q

    last : 2 * q * (2 * q) + 2 * q + suc (2 * q) ≡ 4 * (q * q) + 4 * q + 1
    last = omega arith

-- a comparison of squares, both times the square of u
pub scaled_above : (W c u : ℕ) → 0 < u → 4 * W < c * c → 4 * (W * (u * u)) < c * u * (c * u)
scaled_above W c u p h = lt_of_le_of_lt (le_of_eq (sym (mul_assoc 4 W (u * u)))) (lt_of_lt_of_le (mul-lt-mul_of_pos_right h (mul-pos p p)) (le_of_eq (sym (mul-mul-mul_comm c u c u))))

pub scaled_below : (W c u : ℕ) → 0 < u → c * c < 4 * W → c * u * (c * u) < 4 * (W * (u * u))
scaled_below W c u p h = lt_of_le_of_lt (le_of_eq (mul-mul-mul_comm c u c u)) (lt_of_lt_of_le (mul-lt-mul_of_pos_right h (mul-pos p p)) (le_of_eq (mul_assoc 4 W (u * u))))

-- one step down from a number that is too large
pub step_down : (w r : ℕ) → 0 < w → w + r ≤ r * r → w ≤ (r - 1) * (r - 1) + (r - 1)
step_down w zero p h = absurd (no w p h)
  where
    no : (w : ℕ) → 0 < w → w + 0 ≤ 0 → ⊥
    no w p h = omega arith
step_down w (suc r) p h =
    let e = sq_suc r in
    let one : suc r - 1 ≡ r = omega arith in
    subst (λ (z : ℕ). w ≤ z * z + z) (sym one) (omega arith)

pub square_pos : (r : ℕ) → 0 < r * r → 0 < r
square_pos zero h = h
square_pos (suc r) h = omega arith

-- a number that is too small has at most 24 digits
pub small_root : (w r : ℕ) → w < 281474976710656 → r * r + r < w → r < 16777216
small_root w r h k = sq_lt_back {a = r} {b = 16777216} (omega arith)
