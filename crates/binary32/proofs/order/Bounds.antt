-- The larger of x and 0 and the smaller of x and 1, each by one test: where it fails x is NaN, on the other side, or equal to the bound, and then either zero stands before +0 or is it, and x is 1 itself.
-- Assumes nothing.
use mathlib.Core.Path.{◌≡◌, refl, sym, ap, ◌∙◌}
use mathlib.Core.Logic.{inl, inr}
use mathlib.Core.Bool.{Bool, true, false, ◌&&◌, ◌||◌, cond, and-false, true≢false}
use Prim.Native.Nat.{ℕ, zero, suc, ◌+◌, ◌*◌, ◌<◌}
use native.Mathlib.Nat.{zero-mul, zero-lt-suc, eq-zero-or-pos, le_antisymm}
use native.Mathlib.Omega.{arith}
use borrow.Author.Tests.{lt-ltb, ltb-false}
use lib.IntN.{ℤ, pos}
use lib.Dec.{T, ltb}
use lib.Ieee.{Float, nan, inf, fin, binary32, up, down, below, level, lt, eq, fits, is_nan, of_bits}
use lib.Ieee.Fits.{down_pos}
use Rattle.binary32.specs.Binary32.{float0, float1, minus_sign, before, max_of, min_of}
use Rattle.binary32.specs.ValueLaws.{same_value}
use Rattle.binary32.specs.CompareLaws.{lt_asym, zero_is, below_one}

-- ---- the larger of x and 0
pub above_0 : (x : Float) → lt float0 x ≡ true → x ≡ max_of x float0
unfolding max_of before is_nan lt of_bits
above_0 nan h = absurd (true≢false (sym h))
above_0 (inf true) h = absurd (true≢false (sym h))
above_0 (inf false) h = sym (ap (λ (b : Bool). cond b float0 (inf false)) (and-false (eq (inf false) float0)))
above_0 (fin true m e) h = absurd (true≢false (sym h))
above_0 (fin false m e) h =
    let x = fin false m e in
    sym (ap (λ (b : Bool). cond (b || (eq x float0 && false)) float0 x) (lt_asym float0 x h) ∙ ap (λ (b : Bool). cond b float0 x) (and-false (eq x float0)))

-- a number with a minus sign stands before +0
minus_before : (a b : ℕ) → b ≡ 0 → (below true a false b || (level true a false b && true)) ≡ true
minus_before a b z = elim (eq-zero-or-pos a) [
  | inl e ↦ ap (λ (k : ℕ). below true k false b || (level true k false b && true)) e ∙ ap (λ (k : ℕ). below true 0 false k || (level true 0 false k && true)) z
  | inr p ↦ ap (λ (t : Bool). t || (level true a false b && true)) (lt-ltb 0 (a + b) (more a b p))
]
  where
    more : (a b : ℕ) → 0 < a → 0 < a + b
    more a b p = omega arith

pub not_above_0 : (x : Float) → T (fits binary32 x) → lt float0 x ≡ false → float0 ≡ max_of x float0
unfolding max_of before is_nan lt eq of_bits
not_above_0 nan p h = refl
not_above_0 (inf true) p h = refl
not_above_0 (inf false) p h = absurd (true≢false h)
not_above_0 (fin true m e) p h = sym (ap (λ (b : Bool). cond b float0 (fin true m e)) (minus_before (m * up e * 1) (0 * 1 * down e) (zero-mul (down e))))
not_above_0 (fin false zero e) p h = ap (λ (x : Float). max_of x float0) (sym (zero_is false e p))
not_above_0 (fin false (suc m) e) p h = absurd (true≢false (sym (lt-ltb (0 * 1 * down e) (suc m * up e * 1) (below_one m e)) ∙ h))

-- ---- the smaller of x and 1
number : (x : Float) → lt x float1 ≡ true → is_nan x ≡ false
unfolding lt is_nan
number nan h = absurd (true≢false (sym h))
number (inf s) h = refl
number (fin s m e) h = refl

unsigned_1 : minus_sign float1 ≡ false
unfolding of_bits
unsigned_1 = refl

is_number : is_nan float1 ≡ false
unfolding is_nan of_bits
is_number = refl

pub below_1 : (x : Float) → lt x float1 ≡ true → x ≡ min_of x float1
unfolding min_of before
below_1 x h = simp (number x h, is_number, lt_asym x float1 h, unsigned_1, and-false)

one_held : T (fits binary32 float1)
unfolding fits of_bits
one_held = tt

-- neither below 1 nor above it
is_1 : (m : ℕ) (e : ℤ) → T (fits binary32 (fin false m e)) → ltb (m * up e * 1) (1 * 1 * down e) ≡ false → ltb (1 * 1 * down e) (m * up e * 1) ≡ false → float1 ≡ fin false m e
unfolding of_bits
is_1 m e p a b =
    same_value (fin false 1 (pos 0)) (fin false m e) false 1 1 one_held p (zero-lt-suc 0) (refl, refl)
    (refl, le_antisymm (ltb-false (1 * 1 * down e) (m * up e * 1) b) (ltb-false (m * up e * 1) (1 * 1 * down e) a))

pub not_below_1 : (x : Float) → T (fits binary32 x) → lt x float1 ≡ false → float1 ≡ min_of x float1
unfolding min_of before is_nan lt eq of_bits
not_below_1 nan p h = refl
not_below_1 (inf true) p h = absurd (true≢false h)
not_below_1 (inf false) p h = refl
not_below_1 (fin true m e) p h = absurd (true≢false (sym (lt-ltb 0 (m * up e * 1 + 1 * 1 * down e) (more (m * up e * 1) (down e) (down_pos e))) ∙ h))
  where
    more : (a d : ℕ) → 0 < d → 0 < a + 1 * 1 * d
    more a d p = omega arith
not_below_1 (fin false m e) p h = go (ltb (1 * 1 * down e) (m * up e * 1)) refl
  where
    go : (b : Bool) → ltb (1 * 1 * down e) (m * up e * 1) ≡ b → float1 ≡ cond (b || (eq float1 (fin false m e) && false)) float1 (fin false m e)
    go true t = refl
    go false t = is_1 m e p h t ∙ sym (ap (λ (b : Bool). cond b float1 (fin false m e)) (and-false (eq float1 (fin false m e))))
