-- Laws of `root_of` for callers to cite. A root is rounded to at most 24 digits times a power of two, as every result is, so binary32 holds it; and only a zero's root has a sign.
-- Assumes nothing.
use Rattle.std.specs.Prelude.{◌≡◌, refl, ℕ, zero, suc, ◌+◌, ◌-◌, ◌*◌, ◌/◌, ◌^◌, ◌≤◌, ◌<◌, Bool, true, false, cond, ℤ, pos, T, ltb, Float}
use Rattle.std.proofs.Common.{le_refl, le_trans, lt_of_le_of_lt, zero-mul, arith, ltb→lt}
use Rattle.std.proofs.Math.Dec.{not_T}
use Rattle.std.specs.Int.Count.{count_trailing_zeros}
use Rattle.std.proofs.Math.Pow.{pow-lt}
use Rattle.std.specs.Float.{nan, inf, fin, Format, binary32}
use Rattle.std.specs.Float.Ieee.{prec, emax, low, up, down, minus, size, nearest, odd, units, fits, lt}
use Rattle.std.specs.Float.Ieee.Bits.{is_false}
use Rattle.std.specs.Float.Ieee.Fits.{odd-fits, nan-fits, inf-fits, nearest-le, kept-lt}
use Rattle.root.specs.Root.{isqrt, against_middle, root_units, in_units, root_of}

-- ---- binary32 holds the root
pub units_fits : (f : Format) (q k : ℕ) → q ≤ 2 ^ prec f → T (fits f (units f false q k))
unfolding units
units_fits f q k a = go (ltb (q * 2 ^ k) (2 ^ (low f + suc (emax f)))) (ltb→lt (q * 2 ^ k) (2 ^ (low f + suc (emax f))))
  where
    go : (b : Bool) → (T b → q * 2 ^ k < 2 ^ (low f + suc (emax f))) → T (fits f (cond b (odd (suc (prec f)) false q k (low f)) (inf false)))
    go true h = odd-fits f (suc (prec f)) false q k (lt_of_le_of_lt a (pow-lt (le_refl (suc (prec f))))) a (h tt)
    go false h = inf-fits f false

pub root_units_fits : (f : Format) (N : ℕ) → T (fits f (root_units f N))
unfolding root_units
root_units_fits f N =
    let n = N * 2 ^ low f in
    let k = size (isqrt n) - prec f in
    let q = isqrt n / 2 ^ k in
    units_fits f (nearest q (against_middle n q k)) k (le_trans (nearest-le q (against_middle n q k)) (kept-lt (prec f) (isqrt n)))

pub root_fits : (x : Float) → T (fits binary32 x) → T (fits binary32 (root_of x))
unfolding root_of
root_fits nan h = nan-fits binary32
root_fits (inf true) h = nan-fits binary32
root_fits (inf false) h = inf-fits binary32 false
root_fits (fin s zero e) h = h
root_fits (fin true (suc m) e) h = nan-fits binary32
root_fits (fin false (suc m) e) h = root_units_fits binary32 (in_units (fin false (suc m) e))

-- ---- no root is below zero
none_below : (a b : ℕ) → b ≡ 0 → ltb a b ≡ false
none_below a b e = is_false (ltb a b) (not_T (ltb a b) (λ (t : T (ltb a b)). no (ltb→lt a b t)))
  where
    no : a < b → ⊥
    no h = omega arith

above_not_below : (m : ℕ) (e : ℤ) → lt (fin false m e) (fin false 0 (pos 0)) ≡ false
unfolding lt
above_not_below m e = none_below (m * up e * 1) (0 * down e) (zero-mul (down e))

odd_not_below : (d q k l : ℕ) → lt (odd d false q k l) (fin false 0 (pos 0)) ≡ false
unfolding odd
odd_not_below d zero k l = above_not_below 0 (pos 0)
odd_not_below d (suc q) k l = above_not_below (suc q / 2 ^ count_trailing_zeros d (suc q)) (minus (k + count_trailing_zeros d (suc q)) l)

inf_not_below : lt (inf false) (fin false 0 (pos 0)) ≡ false
unfolding lt
inf_not_below = refl

units_not_below : (f : Format) (q k : ℕ) → lt (units f false q k) (fin false 0 (pos 0)) ≡ false
unfolding units
units_not_below f q k = go (ltb (q * 2 ^ k) (2 ^ (low f + suc (emax f))))
  where
    go : (b : Bool) → lt (cond b (odd (suc (prec f)) false q k (low f)) (inf false)) (fin false 0 (pos 0)) ≡ false
    go true = odd_not_below (suc (prec f)) q k (low f)
    go false = inf_not_below

pub root_not_below : (x : Float) → lt (root_of x) (fin false 0 (pos 0)) ≡ false
unfolding root_of root_units lt
root_not_below nan = refl
root_not_below (inf true) = refl
root_not_below (inf false) = refl
root_not_below (fin true zero e) = none_below 0 (0 * up e * 1 + 0 * down e) (simp zero-mul)
root_not_below (fin false zero e) = above_not_below 0 e
root_not_below (fin true (suc m) e) = refl
root_not_below (fin false (suc m) e) =
    let n = in_units (fin false (suc m) e) * 2 ^ 149 in
    let k = size (isqrt n) - 24 in
    let q = isqrt n / 2 ^ k in
    units_not_below binary32 (nearest q (against_middle n q k)) k
