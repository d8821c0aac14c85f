-- Document 02's line of the half, `2 2 2046 63486`, is what the definition itself gives: the checker goes through all 65,536 patterns. Assumes nothing.
use mathlib.Core.Path.{◌≡◌, refl}
use Rattle.fields.specs.Fields.{short_word, short_sign, short_exponent}
use Rattle.short_float_census.specs.Census.{class_of, totals, more, totals_below, counted, census_of}

half : census_of 10 5 ≡ totals 2 2 2046 63486
unfolding census_of counted totals_below more class_of short_word short_sign short_exponent
half = refl
