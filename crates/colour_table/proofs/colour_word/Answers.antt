-- `colour_table::colour_word` meets its contract: the pair is the list's, and the half of it that the low bit picks is the field's word (`Halves`).
use Rattle.colour_table.proofs.Halves.{half_is}
use Rattle.colour_table.proofs.colour_word.Goals as goal

pub returns : goal.returns
returns c = rw c.pair-two.ensures (half_is c.args.value)
