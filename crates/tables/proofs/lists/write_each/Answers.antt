-- `lists::write_each` meets its contract where a write is refused: before it the pairs before it are made, and it ends the list (ListLaws: refused).
use Rattle.std.proofs.Common.{◌/◌, length, ◌∙◌, arith}
use Rattle.tables.specs.RefusalLaws.{refusal_not_zero}
use Rattle.tables.proofs.ListLaws.{refused, pair_at}
use Rattle.tables.proofs.lists.write_each.Goals as goal

pub returns-in-Err : goal.returns-in-Err
returns-in-Err c =
    let p = c.args.pairs.now in
    let l = c.loop-done in
    let e = pair_at c.as_chunks.result.0.now (length p / 2) p l.done c.as_chunks.ensures.front (omega arith) in
    refused l.file l.tables l.g p l.done (omega arith) _ (refusal_not_zero c.in-Err.refusal) _ _ l.g (rw (c.in-Err.is, e.0, e.1) at c.write.ensures) ∙ l.invariant
