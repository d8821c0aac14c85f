use Rattle.std.proofs.Common.{◌*◌, ◌≡◌, drop}
use Rattle.unit.specs.declared.Cache.{Cache}
use Rattle.lists.specs.States.{CopyState, unit_state, state}
use Rattle.lists.specs.Calls.{run}
use Rattle.lists.specs.Ours.{ours}
use Rattle.capture_calls.specs.Capture.{pair_calls}
use Rattle.capture_body.proofs.writes.write_pairs.Given as goal

abbrev pub invariant-loop-register : goal.invariant-loop-register
invariant-loop-register l = (h : Cache) (k : CopyState) → run ours (state (unit_state l.file l.tables l.g h) k) (pair_calls (drop (2 * l.register-index) l.pairs)) ≡ run ours (state (unit_state l.initial.file l.initial.tables l.generation h) k) (pair_calls l.pairs)
