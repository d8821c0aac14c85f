-- `lit::lit` meets its contract: a block of a form with or without a NaN is well formed.
use Rattle.block_reading.specs.FormLaws.{formed_by_form}
use Rattle.block_reading.proofs.lit.lit.Goals as goal

pub invariant_of-result : goal.invariant_of-result
invariant_of-result g c = record { formed = formed_by_form _ c.args.nan_free c.requires }
