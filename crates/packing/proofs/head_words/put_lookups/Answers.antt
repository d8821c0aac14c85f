-- `head_words::put_lookups` meets its contract: its seven rows, one after another, are the definition's.
use mathlib.Core.Path.{refl}
use Rattle.block.specs.Block.{lookup_words}
use Rattle.packing.specs.Steps.{lookups_words}
use Rattle.packing.specs.PutLaws.{after}
use Rattle.packing.proofs.head_words.put_lookups.Goals as goal

pub returns : goal.returns
unfolding lookups_words lookup_words
returns c = let e1 = c.put_lookup.ensures in
    let e2 = c.put_lookup-2.ensures in
    let e3 = c.put_lookup-3.ensures in
    let e4 = c.put_lookup-4.ensures in
    let e5 = c.put_lookup-5.ensures in
    let e6 = c.put_lookup-6.ensures in
    let e7 = c.put_lookup-7.ensures in
    after _ _ _ 8 24 _ _ refl (after _ _ _ 8 20 _ _ refl (after _ _ _ 8 16 _ _ refl (after _ _ _ 8 12 _ _ refl (after _ _ _ 8 8 _ _ refl (after _ _ _ 8 4 _ _ refl e1 e2) e3) e4) e5) e6) e7
