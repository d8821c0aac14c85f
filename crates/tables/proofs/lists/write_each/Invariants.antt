use Rattle.std.proofs.Common.{◌≡◌, ◌*◌, drop}
use Rattle.tables.specs.Tables.{writes, write_each}
use Rattle.tables.proofs.lists.write_each.Given as goal

abbrev pub invariant-loop-done : goal.invariant-loop-done
invariant-loop-done l = write_each (writes 0 l.done l.file l.tables l.g) (drop (2 * l.done) l.pairs) ≡ write_each (writes 0 0 l.initial.file l.initial.tables l.generation) l.pairs
