-- 0 - x has the other sign, and is +0 for either zero: the difference is exact, so it is the one float with that value. The larger of x and 0 - x is then the magnitude.
-- Assumes nothing.
use mathlib.Core.Path.{◌≡◌, refl, sym, ap, ◌∙◌}
use mathlib.Core.Bool.{Bool, true, false, not, cond, true≢false}
use Prim.Native.Nat.{ℕ, zero, suc, ◌+◌, ◌-◌, ◌*◌, ◌<◌}
use native.Mathlib.Nat.{zero-mul, one-mul, mul-one, zero-add, sub-zero, mul-pos, zero-lt-suc}
use native.Mathlib.Omega.{arith}
use borrow.Author.Tests.{lt-ltb}
use lib.IntN.{ℤ, pos}
use lib.Dec.{T}
use lib.Ieee.{Float, nan, inf, fin, binary32, up, down, round, neg, sub, lt, fits, of_bits}
use lib.Ieee.Exact.{HasValue}
use lib.Ieee.Fits.{up_pos, down_pos, neg-fits}
use Rattle.binary32.specs.ValueLaws.{round_own}
use Rattle.binary32.specs.CompareLaws.{below_one, zero_is}
use Rattle.binary32.specs.Binary32.{magnitude_of}

value : (s : Bool) (m : ℕ) (e : ℤ) (a : ℕ) → a ≡ m * up e → HasValue (fin s m e) s a (1 * down e)
value s m e a h = (refl, ap (λ (z : ℕ). m * up e * z) (one-mul (down e)) ∙ ap (λ (z : ℕ). z * down e) (sym h))

den : (e : ℤ) → 0 < 1 * down e
den e = mul-pos (zero-lt-suc 0) (down_pos e)

pub from_zero : (s : Bool) (m : ℕ) (e : ℤ) → T (fits binary32 (fin s (suc m) e)) → sub binary32 (of_bits binary32 0) (fin s (suc m) e) ≡ fin (not s) (suc m) e
unfolding sub neg of_bits
from_zero true m e p =
    round_own (fin false (suc m) e) false (0 * 1 * down e + suc m * up e * 1) (1 * down e) (neg-fits binary32 (fin true (suc m) e) p) (den e)
    (value false (suc m) e _ (ap (λ (z : ℕ). z + suc m * up e * 1) (zero-mul (down e)) ∙ zero-add (suc m * up e * 1) ∙ mul-one (suc m * up e)))
from_zero false m e p =
    ap (λ (b : Bool). cond b (round binary32 true (suc m * up e * 1 - 0 * 1 * down e) (1 * down e)) (round binary32 false (0 * 1 * down e - suc m * up e * 1) (1 * down e)))
    (lt-ltb (0 * 1 * down e) (suc m * up e * 1) (below_one m e))
    ∙ round_own (fin true (suc m) e) true (suc m * up e * 1 - 0 * 1 * down e) (1 * down e) (neg-fits binary32 (fin false (suc m) e) p) (den e)
    (value true (suc m) e _ (ap (λ (z : ℕ). suc m * up e * 1 - z) (zero-mul (down e)) ∙ sub-zero (suc m * up e * 1) ∙ mul-one (suc m * up e)))

zero_from_zero : (s : Bool) → sub binary32 (of_bits binary32 0) (fin s 0 (pos 0)) ≡ fin false 0 (pos 0)
unfolding sub neg of_bits
zero_from_zero true = refl
zero_from_zero false = refl

pub from_zero_of_zero : (s : Bool) (e : ℤ) → T (fits binary32 (fin s 0 e)) → sub binary32 (of_bits binary32 0) (fin s 0 e) ≡ fin false 0 e
unfolding neg
from_zero_of_zero s e p = ap (sub binary32 (of_bits binary32 0)) (zero_is s e p) ∙ zero_from_zero s ∙ sym (zero_is false e (unsigned s p))
  where
    unsigned : (s : Bool) → T (fits binary32 (fin s 0 e)) → T (fits binary32 (fin false 0 e))
    unsigned true q = neg-fits binary32 (fin true 0 e) q
    unsigned false q = q

-- ---- the larger of x and 0 - x
pub larger : (x : Float) → T (fits binary32 x) → lt (sub binary32 (of_bits binary32 0) x) x ≡ true → x ≡ magnitude_of x
unfolding magnitude_of sub neg of_bits lt
larger nan p h = refl
larger (inf true) p h = absurd (true≢false (sym h))
larger (inf false) p h = refl
larger (fin true zero e) p h = absurd (true≢false (sym h ∙ ap (λ (z : Float). lt z (fin true 0 e)) (from_zero_of_zero true e p)))
larger (fin true (suc m) e) p h = absurd (true≢false (sym h ∙ ap (λ (z : Float). lt z (fin true (suc m) e)) (from_zero true m e p)))
larger (fin false m e) p h = refl

pub other : (x : Float) → T (fits binary32 x) → lt (sub binary32 (of_bits binary32 0) x) x ≡ false → sub binary32 (of_bits binary32 0) x ≡ magnitude_of x
unfolding magnitude_of sub neg of_bits lt
other nan p h = refl
other (inf true) p h = refl
other (inf false) p h = absurd (true≢false h)
other (fin true zero e) p h = from_zero_of_zero true e p
other (fin true (suc m) e) p h = from_zero true m e p
other (fin false zero e) p h = from_zero_of_zero false e p
other (fin false (suc m) e) p h =
    let a = suc m * up e * down e in
    let some : 0 < a + a = both a (mul-pos (mul-pos (zero-lt-suc m) (up_pos e)) (down_pos e)) in
    absurd (true≢false (sym (lt-ltb 0 (a + a) some) ∙ ap (λ (z : Float). lt z (fin false (suc m) e)) (sym (from_zero false m e p)) ∙ h))
  where
    both : (a : ℕ) → 0 < a → 0 < a + a
    both a h = omega arith
