-- `table_lookups::scale` meets its contract. The constant table holds the floats of the definition's list.
use Rattle.std.specs.Float.Ieee.{nan, of_int, of_bits, div}
use Rattle.std.proofs.Common.{rules}
use Rattle.std.proofs.lemmas.List.{get_or_default}
use Rattle.decoding.specs.Read.{as_float, scales, scale_of}
use Rattle.decoding.proofs.table_lookups.scale.Goals as goal

pub returns : goal.returns
unfolding scale_of of_int of_bits div
returns c = get_or_default scales c.args.code nan (as_float 0) (search rules)
