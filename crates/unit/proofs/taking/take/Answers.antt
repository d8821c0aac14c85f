-- `taking::take` meets its contract. Where the lighting is refused nothing is taken; else the block is its own, and the tables are the unit's where the
-- generations differ.
use Rattle.std.proofs.lemmas.Result.{err_from_is_err_and}
use Rattle.unit.proofs.taking.Took.{refused_takes, same_takes, other_takes}
use Rattle.unit.proofs.taking.take.Goals as goal

pub returns-in_err-pack_reading : goal.returns-in_err-pack_reading
returns-in_err-pack_reading c =
    let a = c.args in
    let p = err_from_is_err_and c.from_residual.result c.from_residual.ensures.1 in
    rw (p.1, p.2) (refused_takes a.decoded a.tables.now a.generation a.block.now a.copied.now a.age _ _ c.in_err-pack_reading.ensures)

pub returns-then-generation-age : goal.returns-then-generation-age
returns-then-generation-age c =
    let a = c.args in
    rw c.copy.ensures
    (other_takes a.decoded a.tables.now a.generation a.block.now a.copied.now a.age _ c.if-generation-age.true c.in_ok-pack_reading.ensures)

pub returns-else-generation-age : goal.returns-else-generation-age
returns-else-generation-age c =
    let a = c.args in
    same_takes a.decoded a.tables.now a.generation a.block.now a.copied.now a.age _ c.if-generation-age.false c.in_ok-pack_reading.ensures
