-- `light_words::put_colours` meets its contract: its four rows, one after another, are the definition's.
use mathlib.Core.Path.{refl}
use Rattle.block.specs.Block.{vector_words}
use Rattle.packing.specs.Steps.{colours_words}
use Rattle.packing.specs.PutLaws.{after}
use Rattle.packing.proofs.light_words.put_colours.Goals as goal

pub returns : goal.returns
unfolding colours_words vector_words
returns c = let at = c.args.at in
    let e1 = c.put_vector.ensures in
    let e2 = c.put_vector-2.ensures in
    let e3 = c.put_vector-3.ensures in
    let e4 = c.put_vector-4.ensures in
    after _ _ _ at 12 _ _ refl (after _ _ _ at 8 _ _ refl (after _ _ _ at 4 _ _ refl e1 e2) e3) e4
