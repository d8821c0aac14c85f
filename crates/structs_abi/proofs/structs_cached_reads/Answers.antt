-- `structs_abi::structs_cached_reads` meets its contract where the second read is refused: its number is the refusal's.
use Rattle.std.proofs.Common.{ap}
use Rattle.refusals.specs.Refusals.{outcome_number}
use Rattle.structs_abi.specs.ComposedLaws.{packs_refused}
use Rattle.structs_abi.proofs.structs_cached_reads.Goals as goal

pub returns-in-Err : goal.returns-in-Err
returns-in-Err c =
    let a = c.args in
    rw c.from.ensures (packs_refused a.file.now a.other.now a.block.now _ _ _ _ _ c.fresh_cache-cache.ensures c.cached_read.ensures c.cached_read-2.ensures _ (ap outcome_number c.in-Err.is))
