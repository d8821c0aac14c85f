-- `census` meets its contract: the widths are counted, so that F-10's sentence holds of the totals and nothing wraps.
use Prim.Native.Nat.{ℕ, ◌^◌, ◌≤◌}
use native.Mathlib.Omega.{arith}
use mathlib.Core.Bool.{Bool, true}
use mathlib.Core.Path.{◌≡◌}
use lib.Pow.{pow_mono}
use Rattle.short_float_census.specs.Census.{counted}
use Rattle.short_float_census.specs.Claims.{Shares}
use Rattle.short_float_census.specs.CensusLaws.{counted_widths, every_width}
use Rattle.short_float_census.proofs.census.Goals as goal

shares : (m e : ℕ) (b : Bool) → b ≡ counted m e → b ≡ true → Shares m e
shares m e b d t = every_width m e (counted_widths m e (rw (← d) t))

small : (m e : ℕ) (b : Bool) → b ≡ counted m e → b ≡ true → 2 ^ m ≤ 4096
small m e b d t = pow_mono {i = m} {j = 12} (counted_widths m e (rw (← d) t)).m_high

pub overflow_mul-nans : goal.overflow_mul-nans
overflow_mul-nans c = record { fits = omega (arith, c.power-unit.ensures.0, small _ _ _ c.counted.ensures c.if-not-counted.false) }

pub overflow_sub-numbers : goal.overflow_sub-numbers
overflow_sub-numbers c = omega (arith, shares _ _ _ c.counted.ensures c.if-not-counted.false, c.power.ensures.0)

pub overflow_sub-numbers-2 : goal.overflow_sub-numbers-2
overflow_sub-numbers-2 c = omega (arith, shares _ _ _ c.counted.ensures c.if-not-counted.false, c.power-unit.ensures.0, c.power.ensures.0)
