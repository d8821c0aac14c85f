-- `whole_parts::quantized` meets its contract: what `held` gives in place of the clamp has the same channel, and its product with 255 is a number whose
-- raised floor ends in the channel's digits (`Quantizing`, `RaisedLaws`).
use mathlib.Core.Path.{◌≡◌, sym, ap, subst, ◌∙◌}
use mathlib.Core.Bool.{not}
use Prim.Native.Nat.{ℕ, ◌%◌, ◌≤◌, ◌<◌}
use lib.IntN.{pos}
use lib.Dec.{T}
use lib.Ieee.{Float, binary32, mul, of_int, is_nan, to_bits}
use Rattle.binary32.specs.Binary32.{float0, float1, float255}
use Rattle.binary32.specs.Steps.{held_of, raisable, raised_floor}
use Rattle.binary32.specs.RaisedLaws.{raised_number, raised_bits, raised_bounds, under_raisable, under_raised}
use Rattle.binary32.proofs.whole_parts.Quantizing.{product_under, same_channel}
use Rattle.binary32.proofs.whole_parts.quantized.Goals as goal

abbrev product : Float → Float
product x = mul binary32 (held_of x float0 float1) float255

in_range_lem : (x : Float) → T (raisable (product x))
in_range_lem x = under_raisable (product x) (product_under x)

bounds : (x : Float) → (8388608 ≤ raised_floor (product x)) × (raised_floor (product x) < 16777216)
bounds x = raised_bounds (product x) (in_range_lem x)

raised_is : (c : goal.After-raised_floor-w) → c.raised_floor-w.result ≡ of_int binary32 (pos (raised_floor (product c.args.x)))
raised_is c = c.raised_floor-w.ensures ∙ ap (λ (y : Float). of_int binary32 (pos (raised_floor (mul binary32 y float255)))) c.held.ensures

pub raised_floor-w-requires : goal.raised_floor-w-requires
raised_floor-w-requires c = subst (λ (y : Float). T (raisable (mul binary32 y float255))) (sym c.held.ensures) (in_range_lem c.args.x)

pub float_to_bits-result : goal.float_to_bits-result
float_to_bits-result c =
    let x = c.args.x in
    subst (λ (w : Float). T (not (is_nan w))) (sym (raised_is c)) (raised_number (raised_floor (product x)) (bounds x).1)

pub returns : goal.returns
returns c =
    let x = c.args.x in
    ap (λ (w : Float). to_bits binary32 w % 256) (raised_is c)
    ∙ ap (λ (n : ℕ). n % 256) (raised_bits (raised_floor (product x)) (bounds x).0 (bounds x).1)
    ∙ under_raised (product x) (product_under x)
    ∙ same_channel x (subst T (sym c.well_formed.0.1) tt)
