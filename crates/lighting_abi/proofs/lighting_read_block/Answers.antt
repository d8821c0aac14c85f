-- `lighting_abi::lighting_read_block` meets its contract: a block of another length is told by its length, and any other by its form (ReaderLaws).
use Rattle.std.proofs.Common.{ap, ◌∙◌}
use Rattle.sources.proofs.WordsLaws.{word_values}
use Rattle.block.specs.Steps.{block_form}
use Rattle.lighting_abi.specs.Steps.{form_number}
use Rattle.lighting_abi.specs.ReaderLaws.{reader_wrong, reader_form}
use Rattle.lighting_abi.proofs.lighting_read_block.Goals as goal

pub returns-then-block-ne328 : goal.returns-then-block-ne328
returns-then-block-ne328 c = rw c.from.ensures (reader_wrong c.args.block.now c.if-block-ne328.true)

pub returns : goal.returns
returns c =
    c.switch_number.ensures ∙ c.switch_of.ensures ∙ ap form_number (c.form.ensures ∙ ap block_form (word_values c.args.block.now)) ∙ reader_form c.args.block.now c.if-block-ne328.false
