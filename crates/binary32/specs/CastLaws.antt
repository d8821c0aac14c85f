-- A whole number up to 2 ^ 24 is a value of binary32, so that its cast loses nothing; rounding treats both signs alike, so that a negative number is its magnitude, negated. Assumes nothing.
use Rattle.std.specs.Prelude.{ℕ, zero, suc, ◌+◌, ◌*◌, ◌^◌, ◌≤◌, Bool, true, false, not, cond, ◌≡◌, refl, T, ltb, pos, negsuc, Float}
use Rattle.std.proofs.Common.{ap, ◌∙◌, le→leb}
use Rattle.std.specs.Float.{inf, Format, binary32}
use Rattle.std.specs.Float.Ieee.{low, prec, emax, neg, odd, units, round, of_int, in_float}

pub exact : (n : ℕ) → n ≤ 16777216 → T (in_float binary32 (pos n))
unfolding in_float
exact n h = le→leb n 16777216 h

neg_odd : (d : ℕ) (s : Bool) (q k l : ℕ) → neg (odd d s q k l) ≡ odd d (not s) q k l
unfolding neg odd
neg_odd d s zero k l = refl
neg_odd d s (suc q) k l = refl

neg_either : (b : Bool) (x : Float) (s : Bool) → neg (cond b x (inf s)) ≡ cond b (neg x) (inf (not s))
unfolding neg
neg_either true x s = refl
neg_either false x s = refl

neg_units : (f : Format) (s : Bool) (q k : ℕ) → neg (units f s q k) ≡ units f (not s) q k
unfolding units
neg_units f s q k =
    let b = ltb (q * 2 ^ k) (2 ^ (low f + suc (emax f))) in
    neg_either b (odd (suc (prec f)) s q k (low f)) s ∙ ap (λ (x : Float). cond b x (inf (not s))) (neg_odd (suc (prec f)) s q k (low f))

pub neg_round : (f : Format) (s : Bool) (num den : ℕ) → neg (round f s num den) ≡ round f (not s) num den
unfolding round
neg_round f s num den = neg_units f s _ _

pub below_zero : (n k : ℕ) → n ≡ suc k → neg (of_int binary32 (pos n)) ≡ of_int binary32 (negsuc k)
unfolding of_int
below_zero n k e = neg_round binary32 false n 1 ∙ ap (λ (x : ℕ). round binary32 true x 1) e
