-- The census of some widths. Each is closed, so that the checker counts it pattern by pattern; the half is counted beside the program that prints it
-- (census/proofs/Examples). Assumes nothing.
use mathlib.Core.Path.{◌≡◌, refl}
use Rattle.fields.specs.Fields.{short_word, short_sign, short_exponent}
use Rattle.short_float_census.specs.Census.{class_of, totals, more, totals_below, counted, census_of}

-- 16 patterns
smallest : census_of 1 2 ≡ totals 2 2 2 10
unfolding census_of counted totals_below more class_of short_word short_sign short_exponent
smallest = refl

-- 128 patterns
three_three : census_of 3 3 ≡ totals 2 2 14 110
unfolding census_of counted totals_below more class_of short_word short_sign short_exponent
three_three = refl

thirteen : census_of 13 5 ≡ totals 0 0 0 0
unfolding census_of counted
thirteen = refl

one_bit_exponent : census_of 10 1 ≡ totals 0 0 0 0
unfolding census_of counted
one_bit_exponent = refl
