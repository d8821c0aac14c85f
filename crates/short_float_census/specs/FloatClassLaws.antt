-- A word's class is what its float is: the fields that `class_of` looks at are those that IEEE 754 reads a float by, and a float with some digit set is no zero.
-- So the class survives the way of a word through its float. Assumes nothing.
use Rattle.std.specs.Prelude.{ℕ, zero, suc, ◌+◌, ◌*◌, ◌/◌, ◌%◌, ◌^◌, ◌<◌, ◌≡◌, refl, Bool, true, false, cond, ◌&&◌, eqb, leb, Float}
use Rattle.std.proofs.Common.{mul-pos, arith, sym, ap, ◌∙◌, pow_pos}
use Rattle.std.proofs.Math.Dec.{eqb-suc-zero}
use Rattle.std.specs.Float.{nan, inf, fin, binary32}
use Rattle.std.specs.Float.Ieee.{down, odd, of_fields, of_bits}
use Rattle.std.specs.Float.Ieee.Bits.{of_bits-to_bits, of_bits-fits}
use Rattle.std.specs.Float.Ieee.Digits.{Equals, odd_val}
use Rattle.std.specs.Float.Ieee.Fits.{down_pos}
use Rattle.binary32.specs.Binary32.{float_of, word_of}
use Rattle.short_float_census.specs.declared.Class.TheVariants.{Zero, Infinity, Nan, Number}
use Rattle.short_float_census.specs.Census.{class_of}
use Rattle.short_float_census.specs.Claims.{float_class, ClassOfFloat}

-- a value a / b above zero is no zero
value_class : (x : Float) (a b : ℕ) → 0 < a → Equals x a b → float_class x ≡ Number
value_class nan a b h v = absurd v
value_class (inf s) a b h v = absurd v
value_class (fin s zero e) a b h v =
    let some : 0 < a * down e = mul-pos h (down_pos e) in
    let no : ⊥ = omega arith in
    absurd no
value_class (fin s (suc m) e) a b h v = refl

odd_class : (d : ℕ) (s : Bool) (q k l : ℕ) → 0 < q → float_class (odd d s q k l) ≡ Number
odd_class d s q k l h = value_class (odd d s q k l) (q * 2 ^ k) (2 ^ l) (mul-pos h (pow_pos k)) (odd_val d s q k l)

-- by the two tests of an exponent other than 0
above : (a b s : Bool) (x : Float) → float_class x ≡ Number → cond a (cond b Infinity Nan) Number ≡ float_class (cond a (cond b (inf s) nan) x)
above true true s x h = refl
above true false s x h = refl
above false b s x h = sym h

by_fields : (s : Bool) (x t : ℕ) → cond (eqb x 255) (cond (eqb t 0) Infinity Nan) (cond (eqb x 0 && eqb t 0) Zero Number) ≡ float_class (of_fields binary32 s x t)
unfolding of_fields odd
by_fields s zero zero = refl
by_fields s zero (suc t) = rw eqb-suc-zero (sym (odd_class 24 s (suc t) 0 149 (omega arith)))
by_fields s (suc x) t = rw (eqb-suc-zero x) (above (eqb (suc x) 255) (eqb t 0) s (odd 24 s (8388608 + t) x 149) (odd_class 24 s (8388608 + t) x 149 (omega arith)))

pub class_of_float : ClassOfFloat
unfolding class_of of_bits
class_of_float w = by_fields (leb 2147483648 w) (w % 2147483648 / 8388608) (w % 8388608)

pub class_back : (w : ℕ) → class_of (word_of (float_of w)) ≡ class_of w
class_back w = class_of_float (word_of (float_of w)) ∙ ap float_class (of_bits-to_bits binary32 (float_of w) (of_bits-fits binary32 w)) ∙ sym (class_of_float w)
