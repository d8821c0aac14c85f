-- Laws of `in_units` for callers to cite. A value that binary32 holds is m * 2 ^ e for an m of at most 24 digits and an e of -149 or more, so it is m times a power of two of its smallest value;
-- and it lies below 2 ^ 128, which is 2 ^ 277 of them. Assumes nothing.
use Rattle.std.specs.Prelude.{◌≡◌, refl, ℕ, zero, suc, ◌+◌, ◌-◌, ◌*◌, ◌/◌, ◌%◌, ◌^◌, ◌≤◌, ◌<◌, Bool, ◌&&◌, ℤ, pos, negsuc, T, leb, ltb, eqb, Float}
use Rattle.std.proofs.Common.{sym, ap, ◌∙◌, le_of_eq, lt_of_le_of_lt, lt_of_lt_of_le, lt_of_not-le, not-le_of_lt, zero-mul, mul-one, mul_assoc, mul-pos, mul_right_comm, mul-div_cancel, mul-lt-mul_of_pos_right, div-lt_iff_lt-mul, arith, leb→le, ltb→lt, pow-add, pow_pos}
use Rattle.std.proofs.Math.Pow.{pow-lt}
use Rattle.std.specs.Float.{nan, inf, fin, binary32}
use Rattle.std.specs.Float.Ieee.{up, down, fits}
use Rattle.std.specs.Float.Ieee.Exact.{HasValue}
use Rattle.std.specs.Float.Ieee.Fits.{down_pos, and_l, and_r}
use Rattle.root.specs.Root.{in_units}

pub in_units_lem : (x : Float) (s : Bool) (N : ℕ) → HasValue x s N (2 ^ 149) → in_units x ≡ N
in_units_lem nan s N h = absurd h
in_units_lem (inf t) s N h = absurd h
in_units_lem (fin t m e) s N h = ap (λ (z : ℕ). z / down e) h.1 ∙ mul-div_cancel N (down_pos e)

-- what `fits` tests of a number that is not zero
tested : (s : Bool) (m : ℕ) (e : ℤ) → T (fits binary32 (fin s (suc m) e)) → (suc m < 2 ^ 24) × (down e ≤ 2 ^ 149) × (suc m * up e < 2 ^ 128 * down e)
unfolding fits
tested s m e h =
    let a = eqb (suc m % 2) 1 in
    let b = ltb (suc m) (2 ^ 24) in
    let c = leb (down e) (2 ^ 149) in
    let d = ltb (suc m * up e) (2 ^ 128 * down e) in
    let k = and_l (a && b && c) d h in
    (ltb→lt (suc m) (2 ^ 24) (and_r a b (and_l (a && b) c k)), leb→le (down e) (2 ^ 149) (and_r (a && b) c k), ltb→lt (suc m * up e) (2 ^ 128 * down e) (and_r (a && b && c) d h))

pub few_digits : (s : Bool) (m : ℕ) (e : ℤ) → T (fits binary32 (fin s m e)) → m < 2 ^ 24
few_digits s zero e h = pow_pos 24
few_digits s (suc m) e h = (tested s m e h).0

no_part : (k : ℕ) → 2 ^ suc k ≤ 2 ^ 149 → suc k ≤ 149
no_part k h = lt_of_not-le (λ (g : 149 ≤ k). not-le_of_lt (pow-lt {i = 149} {j = suc k} (omega arith)) h)

-- m * 2 ^ j units
spread : (s : Bool) (m : ℕ) (e : ℤ) → T (fits binary32 (fin s m e)) → (j : ℕ) × HasValue (fin s m e) s (m * 2 ^ j) (2 ^ 149)
spread s m (pos k) h = (k + 149, (refl, mul_assoc m (2 ^ k) (2 ^ 149) ∙ ap (λ (z : ℕ). m * z) (sym (pow-add 2 k 149)) ∙ sym (mul-one (m * 2 ^ (k + 149)))))
spread s zero (negsuc k) h = (0, (refl, sym (zero-mul (2 ^ suc k))))
spread s (suc m) (negsuc k) h =
    let l = no_part k (tested s m (negsuc k) h).1 in
    let j = 149 - suc k in
    let t : 149 ≡ j + suc k = omega arith in
    (j, (refl, ap (λ (z : ℕ). z * 2 ^ 149) (mul-one (suc m)) ∙ ap (λ (z : ℕ). suc m * 2 ^ z) t ∙ ap (λ (z : ℕ). suc m * z) (pow-add 2 j (suc k)) ∙ sym (mul_assoc (suc m) (2 ^ j) (2 ^ suc k))))

pub units_are : (s : Bool) (m : ℕ) (e : ℤ) → T (fits binary32 (fin s m e)) → (j : ℕ) × (in_units (fin s m e) ≡ m * 2 ^ j)
units_are s m e h = let t = spread s m e h in (t.0, in_units_lem (fin s m e) s (m * 2 ^ t.0) t.1)

-- the infinities lie at 2 ^ 277 units
pub units_below : (s : Bool) (m : ℕ) (e : ℤ) → T (fits binary32 (fin s m e)) → in_units (fin s m e) < 2 ^ 277
units_below s zero e h = (div-lt_iff_lt-mul (down_pos e)).1 (lt_of_le_of_lt (le_of_eq (simp zero-mul)) (mul-pos (pow_pos 277) (down_pos e)))
units_below s (suc m) e h =
    (div-lt_iff_lt-mul (down_pos e)).1
    (lt_of_lt_of_le (mul-lt-mul_of_pos_right (tested s m e h).2 (pow_pos 149)) (le_of_eq (mul_right_comm (2 ^ 128) (down e) (2 ^ 149))))
