use Rattle.std.proofs.Common.{◌≡◌}
use Rattle.decoding.specs.Steps.{differences}
use Rattle.decoding.proofs.registers_read.differing.Given as goal

abbrev pub invariant-loop-j : goal.invariant-loop-j
invariant-loop-j l = l.found ≡ differences l.file l.from l.kept l.at l.j
