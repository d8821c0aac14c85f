-- `fields::color` meets its contract. The loop's invariant: the channels before i are put in, so that all three are there once it ends.
use Prim.Native.Nat.{ℕ, suc, ◌+◌, ◌-◌, ◌*◌}
use native.Mathlib.Omega.{arith}
use mathlib.Core.Path.{◌≡◌, refl, ap}
use lib.ListN.{set}
use Rattle.fields.specs.Fields.{colour_field, colour_of}
use Rattle.fields.specs.Steps.{channels_to}
use Rattle.fields.proofs.color.Goals as goal

one_more : (w i : ℕ) → set (channels_to w i) i (colour_field w (20 - 10 * i)) ≡ channels_to w (i + 1)
unfolding channels_to
one_more w i = let next : suc i ≡ i + 1 = omega arith in ap (channels_to w) next

pub loop-i-init : goal.loop-i-init
unfolding channels_to
loop-i-init c = refl

pub loop-i-preserved : goal.loop-i-preserved
unfolding colour_field
loop-i-preserved c = rw (c.loop-i.invariant, c.colour_channel.ensures) (one_more c.args.value c.loop-i.i)

pub returns : goal.returns
unfolding channels_to colour_of
returns c =
    let all : c.loop-i.i ≡ 3 = omega arith in
    rw all at c.loop-i.invariant
