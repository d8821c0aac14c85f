use Rattle.std.proofs.Common.{◌≡◌, drop}
use Rattle.capture_check.specs.Contents.{registers_right}
use Rattle.capture_check.specs.Steps.{bodies}
use Rattle.capture_check.proofs.registers.registers_right.Given as goal

abbrev pub invariant-loop-triple : goal.invariant-loop-triple
invariant-loop-triple l = registers_right l.words (bodies (drop l.triple-index l.contents)) ≡ registers_right l.words (bodies l.contents)
