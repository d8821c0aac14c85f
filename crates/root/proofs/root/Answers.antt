-- `root::root` meets its contract: x is what its pattern stands for, so `placed` and `rooted` work out its root where it is above zero and finite.
-- The other returns are the cases of `Signs`.
use mathlib.Core.Path.{sym, ap, ◌∙◌, subst}
use Prim.Native.Nat.{◌*◌, ◌^◌}
use lib.Dec.{T}
use lib.Ieee.{Float, binary32}
use lib.Ieee.Bits.{of_bits-to_bits}
use lib.Ieee.Positive.{positive, above}
use Rattle.root.specs.Root.{in_units}
use Rattle.root.proofs.Patterns.{no_nan}
use Rattle.root.proofs.Signs.{in_range_lem, above_zero, number, finite_above, root_positive, root_infinity, quotient, root_below, root_neither}
use Rattle.root.proofs.root.Goals as goal

over : (c : goal.Then-x) → T (above c.args.x)
over c = above_zero c.args.x c.if-x.true

found : (c : goal.Then-b-lt2139095040) → T (positive c.args.x)
found c = finite_above c.args.x (over c.before) c.if-b-lt2139095040.true

pub float_to_bits-b : goal.float_to_bits-b
float_to_bits-b c = number c.args.x (over c)

pub placed-requires : goal.placed-requires
placed-requires c = in_range_lem c.args.x ((subst T (sym c.well_formed.0.1) tt)) (found c)

pub rooted-requires : goal.rooted-requires
rooted-requires c = c.placed.ensures.small

pub float_from_bits-result : goal.float_from_bits-result
float_from_bits-result c = no_nan c.rooted.result c.rooted.ensures.small

pub returns-then-b-lt2139095040 : goal.returns-then-b-lt2139095040
returns-then-b-lt2139095040 c =
    let x = c.args.x in
    let back = of_bits-to_bits binary32 x ((subst T (sym c.well_formed.0.1) tt)) in
    sym (root_positive x (found c.before.before) ∙ c.rooted.ensures.is (in_units x) (ap (λ (v : Float). in_units v * 2 ^ 149) (sym back) ∙ c.placed.ensures.is))

pub returns-then-x : goal.returns-then-x
returns-then-x c = root_infinity c.args.x ((subst T (sym c.well_formed.0.1) tt)) (over c.before) c.if-b-lt2139095040.false

pub returns-then-x-2 : goal.returns-then-x-2
returns-then-x-2 c = quotient ∙ sym (root_below c.args.x c.if-x-2.true)

pub returns-else-x-2 : goal.returns-else-x-2
returns-else-x-2 c = root_neither c.args.x c.if-x.false c.if-x-2.false
