-- A whole number over a number that is not zero is no NaN: rounding never gives one, and neither does a division of a number by a finite one other than zero. Assumes nothing.
use Rattle.std.specs.Prelude.{ℕ, zero, suc, ◌+◌, ◌*◌, ◌^◌, Bool, true, false, not, cond, T, ltb, ℤ, pos, negsuc, Float}
use Rattle.std.proofs.Math.Dec.{eqb-suc-zero}
use Rattle.std.specs.Float.{nan, inf, fin, Format}
use Rattle.std.specs.Float.Ieee.{low, prec, emax, div, neg, of_int, odd, units, round, is_nan}

odd_number : (d : ℕ) (s : Bool) (q k l : ℕ) → T (not (is_nan (odd d s q k l)))
unfolding odd is_nan
odd_number d s zero k l = tt
odd_number d s (suc q) k l = tt

pub pick_number : (b : Bool) (x y : Float) → T (not (is_nan x)) → T (not (is_nan y)) → T (not (is_nan (cond b x y)))
pick_number true x y h k = h
pick_number false x y h k = k

inf_number : (s : Bool) → T (not (is_nan (inf s)))
unfolding is_nan
inf_number s = tt

units_number : (f : Format) (s : Bool) (q k : ℕ) → T (not (is_nan (units f s q k)))
unfolding units
units_number f s q k =
    pick_number (ltb (q * 2 ^ k) (2 ^ (low f + suc (emax f)))) (odd (suc (prec f)) s q k (low f)) (inf s) (odd_number (suc (prec f)) s q k (low f)) (inf_number s)

pub round_number : (f : Format) (s : Bool) (num den : ℕ) → T (not (is_nan (round f s num den)))
unfolding round
round_number f s num den = units_number f s _ _

pub of_int_number : (f : Format) (z : ℤ) → T (not (is_nan (of_int f z)))
unfolding of_int
of_int_number f (pos n) = round_number f false n 1
of_int_number f (negsuc n) = round_number f true (suc n) 1

pub neg_number : (x : Float) → T (not (is_nan x)) → T (not (is_nan (neg x)))
unfolding neg is_nan
neg_number nan h = h
neg_number (inf s) h = tt
neg_number (fin s m e) h = tt

-- the divisor is finite and not zero
pub div_number : (f : Format) (x : Float) (t : Bool) (n : ℕ) (d : ℤ) → T (not (is_nan x)) → T (not (is_nan (div f x (fin t (suc n) d))))
unfolding div is_nan
div_number f nan t n d h = absurd h
div_number f (inf s) t n d h = tt
div_number f (fin s m e) t n d h = rw eqb-suc-zero (round_number f _ _ _)

-- the divisor is the whole number n + 1, written as a float is
pub quotient_number : (f : Format) (z : ℤ) (n : ℕ) → T (not (is_nan (div f (of_int f z) (fin false (suc n) (pos 0)))))
quotient_number f z n = div_number f (of_int f z) false n (pos 0) (of_int_number f z)
