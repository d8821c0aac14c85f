-- `lent::try_read` meets its contract: each wrong length is refused as the definition refuses it, and past them the reading is put.
use Rattle.std.proofs.Common.{refl, sym}
use Rattle.std.proofs.lemmas.Result.{err_from_is_err_and}
use Rattle.unit.specs.Unit.{read_packed_if}
use Rattle.unit.specs.HandOverLaws.{read_lengths}
use Rattle.unit.proofs.FirstLaws.{first_read}
use Rattle.unit.proofs.LentLaws.{refused_read}
use Rattle.unit.proofs.lent.try_read.Goals as goal

pub returns-in_err-file : goal.returns-in_err-file
returns-in_err-file c =
    let p = err_from_is_err_and c.from_residual.result c.from_residual.ensures.1 in
    rw (p.1, p.2) (refused_read c.args.file.now c.args.block.now _ c.in_err-file.ensures)

pub put_reading-requires : goal.put_reading-requires
put_reading-requires c = (read_lengths _ _ (sym c.in_ok-file.ensures.1)).1

pub returns : goal.returns
unfolding read_packed_if
returns c =
    let same = first_read c.in_ok-file.file.now c.args.file.now c.in_ok-file.ensures.0 in
    rw (← c.in_ok-file.ensures.1, c.put_reading.ensures.0, c.put_reading.ensures.1, same) refl
