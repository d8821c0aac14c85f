-- How many patterns of a short float end as zero, infinity, NaN or another number. To be read beside F-10 of document 02, whose sentences are quoted.
-- Definitions only.
use Rattle.std.specs.Prelude.{ℕ, zero, suc, ◌+◌, ◌/◌, ◌%◌, ◌^◌, Bool, cond, ◌&&◌, List, [], ◌∷◌, eqb, leb}
use Rattle.fields.specs.Fields.{short_word}
use Rattle.short_float_census.specs.declared.Class.{Class}
use Rattle.short_float_census.specs.declared.Class.TheVariants.{Zero, Infinity, Nan, Number}
use Rattle.short_float_census.specs.declared.Totals.{Totals}

-- "zero, infinity, NaN or another number": the class of a binary32 word, by the 8 bits of its exponent and the 23 below them. Its sign does not count.
unfoldable pub class_of : ℕ → Class
class_of w =
    let exponent = w % 2 ^ 31 / 2 ^ 23 in
    let digits = w % 2 ^ 23 in
    cond (eqb exponent 255) (cond (eqb digits 0) Infinity Nan) (cond (eqb exponent 0 && eqb digits 0) Zero Number)

abbrev pub totals : ℕ → ℕ → ℕ → ℕ → Totals
totals z i n o = record { zeros = z; infinities = i; nans = n; numbers = o }

-- the four in the order in which they are given
abbrev pub four_of : Totals → List ℕ
four_of t = t.zeros ∷ t.infinities ∷ t.nans ∷ t.numbers ∷ []

-- k patterns more of a class
unfoldable pub more : ℕ → Class → Totals → Totals
more k Zero t = totals (t.zeros + k) t.infinities t.nans t.numbers
more k Infinity t = totals t.zeros (t.infinities + k) t.nans t.numbers
more k Nan t = totals t.zeros t.infinities (t.nans + k) t.numbers
more k Number t = totals t.zeros t.infinities t.nans (t.numbers + k)

-- the totals over the patterns below k, each by the word of its short float; m mantissa and e exponent bits
unfoldable pub totals_below : ℕ → ℕ → ℕ → Totals
totals_below m e zero = totals 0 0 0 0
totals_below m e (suc k) = more 1 (class_of (short_word m e k)) (totals_below m e k)

-- "For mantissa widths m from 1 to 12 and exponent widths 2 to 7"
unfoldable pub counted : ℕ → ℕ → Bool
counted m e = leb 1 m && leb m 12 && leb 2 e && leb e 7

-- "a counter gives the four totals over all patterns of m + exponent + 1 bits; other widths give four zeros"
unfoldable pub census_of : ℕ → ℕ → Totals
census_of m e = cond (counted m e) (totals_below m e (2 ^ (m + e + 1))) (totals 0 0 0 0)
