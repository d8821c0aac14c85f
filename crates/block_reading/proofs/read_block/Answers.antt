-- `block_reading::read_block` meets its contract where the block is lit: its lighting is that of the words that were checked.
use Rattle.std.proofs.Common.{◌∙◌}
use Rattle.sources.proofs.WordsLaws.{word_values}
use Rattle.block_reading.specs.FormLaws.{found_lit}
use Rattle.block_reading.proofs.ReadByForm.{lit_read}
use Rattle.block_reading.proofs.read_block.Goals as goal

pub returns-in-Some : goal.returns-in-Some
returns-in-Some c =
    let whole = c.in-Ok.ensures.1 in
    let found = found_lit _ _ _ _ _ c.in_ok-checked.ensures c.in-Some.is in
    lit_read _ whole.long _ _ _ (word_values _ ∙ whole.same) found.0 found.1 c.lighting_of.ensures
