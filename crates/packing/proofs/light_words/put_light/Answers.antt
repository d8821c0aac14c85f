-- `light_words::put_light` meets its contract: its parts, one after another, are the definition's.
use Rattle.packing.proofs.light_words.Light.{light_put}
use Rattle.packing.proofs.light_words.put_light.Goals as goal

pub returns : goal.returns
returns c = light_put _ c.args.at _ _ _ _ _ _
    c.flags_word.ensures
    c.put_colours.ensures
    c.put_places.ensures
    c.put_distance.ensures
    c.put_row.ensures
