-- `head::lighting_with` meets its contract: each part is what the call that makes it ensures.
use Rattle.std.proofs.Common.{map}
use Rattle.block.specs.Block.{words}
use Rattle.block_reading.proofs.head.LightingMade.{lighting_made}
use Rattle.block_reading.proofs.head.lighting_with.Goals as goal

pub returns : goal.returns
returns g c =
    lighting_made (words (map g.W.Word.value c.args.block.words.now)) _ _ _ _ _
    c.options_of-options.ensures
    c.lookups_of-lookups.ensures
    c.light_count.ensures
    c.vector.ensures
