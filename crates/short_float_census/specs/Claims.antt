-- What F-10 of document 02 says of the totals, and what a word's class is beside its float. Statements only.
use Rattle.std.specs.Prelude.{ℕ, zero, suc, ◌+◌, ◌-◌, ◌*◌, ◌^◌, ◌≡◌, Float}
use Rattle.std.specs.Float.{nan, inf, fin}
use Rattle.binary32.specs.Binary32.{float_of}
use Rattle.fields.specs.Steps.{ShortWidths}
use Rattle.short_float_census.specs.declared.Class.{Class}
use Rattle.short_float_census.specs.declared.Class.TheVariants.{Zero, Infinity, Nan, Number}
use Rattle.short_float_census.specs.Census.{class_of, census_of}

-- "2 zeros, 2 infinities and 2·(2^m − 1) NaNs, and the four adding to the whole"
pub record Shares (m e : ℕ) : Type 0 where
  pub zeros : (census_of m e).zeros ≡ 2
  pub infinities : (census_of m e).infinities ≡ 2
  pub nans : (census_of m e).nans ≡ 2 * (2 ^ m - 1)
  pub whole : (census_of m e).zeros + (census_of m e).infinities + (census_of m e).nans + (census_of m e).numbers ≡ 2 ^ (m + e + 1)

-- "One proof over both widths"
abbrev pub EveryWidth : Type 0
EveryWidth = (m e : ℕ) → ShortWidths m e → Shares m e

-- what a value of IEEE 754 is
abbrev pub float_class : Float → Class
float_class nan = Nan
float_class (inf s) = Infinity
float_class (fin s zero e) = Zero
float_class (fin s (suc m) e) = Number

-- a word's class is what its float is
abbrev pub ClassOfFloat : Type 0
ClassOfFloat = (w : ℕ) → class_of w ≡ float_class (float_of w)
