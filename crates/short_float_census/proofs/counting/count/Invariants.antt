use mathlib.Core.Path.{◌≡◌}
use Rattle.short_float_census.specs.Census.{totals_below}
use Rattle.short_float_census.proofs.counting.count.Given as goal

abbrev pub invariant-loop-bits : goal.invariant-loop-bits
invariant-loop-bits l = l.totals ≡ totals_below l.mantissa l.exponent l.bits
