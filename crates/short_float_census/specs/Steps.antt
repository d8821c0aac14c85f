-- What the code asks of its arguments; nobody has to trust it: `census` and `count` ask nothing, and their contracts cite the law, `census_of` of Census.
-- Definitions only.
use Rattle.std.specs.Prelude.{◌<◌}
use Rattle.short_float_census.specs.declared.Totals.{Totals}

-- a word holds each total with one more
pub record Room (t : Totals) : Type 0 where
  pub zeros : t.zeros < 0xffff_ffff
  pub infinities : t.infinities < 0xffff_ffff
  pub nans : t.nans < 0xffff_ffff
  pub numbers : t.numbers < 0xffff_ffff
