-- `whole_parts::whole` meets its contract: the digits that are kept are those before the point (`ByteLaws`).
--
use mathlib.Core.Path.{sym, subst}
use mathlib.Core.Bool.{not}
use Prim.Native.Nat.{◌<◌}
use native.Mathlib.Omega.{arith}
use lib.Dec.{T}
use lib.Ieee.{Float, nan, inf, fin, binary32, fits, is_nan, to_bits}
use Rattle.binary32.specs.Steps.{under_byte}
use Rattle.binary32.specs.ByteLaws.{under_bits, whole_is}
use Rattle.binary32.proofs.whole_parts.whole.Goals as goal

fit : (c : goal.Start) → T (fits binary32 c.args.x)
fit c = subst T (sym c.well_formed.0.1) tt

bits : (c : goal.Start) → to_bits binary32 c.args.x < 1132462080
bits c = under_bits c.args.x c.requires

no_nan : (x : Float) → T (under_byte x) → T (not (is_nan x))
unfolding under_byte is_nan
no_nan nan t = absurd t
no_nan (inf s) t = absurd t
no_nan (fin s m e) t = tt

pub float_to_bits-b : goal.float_to_bits-b
float_to_bits-b c = no_nan c.args.x c.requires

pub behind-requires : goal.behind-requires
behind-requires c = omega (arith, bits c)

pub returns : goal.returns
returns c = whole_is c.args.x c.behind.result (fit c.before) c.requires c.behind.ensures
