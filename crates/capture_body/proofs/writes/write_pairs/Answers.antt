-- `writes::write_pairs` keeps its loop's invariant: what the writes from the place on leave, of the unit so far, stays what all of them leave.
use Rattle.std.proofs.Common.{◌/◌, length, arith}
use Rattle.tables.proofs.ListLaws.{pair_at}
use Rattle.unit.specs.declared.Cache.{Cache}
use Rattle.lists.specs.States.{CopyState, unit_state, state}
use Rattle.capture_body.proofs.writes.NextPair.{pairs_turn}
use Rattle.capture_body.proofs.writes.write_pairs.Goals as goal

pub loop-register-preserved : goal.loop-register-preserved
loop-register-preserved c =
    let l = c.loop-register in
    let p = c.args.pairs.now in
    let e = pair_at c.as_chunks.result.0.now (length p / 2) p l.register-index c.as_chunks.ensures.front (omega (arith, c.as_chunks.ensures.front_len)) in
    λ (h : Cache) (k : CopyState). pairs_turn (state (unit_state l.file l.tables l.g h) k) _ _ p l.register-index (omega (arith, c.as_chunks.ensures.front_len)) (rw (e.0, e.1) at (c.write_one-g.ensures h k)) (l.invariant h k)
