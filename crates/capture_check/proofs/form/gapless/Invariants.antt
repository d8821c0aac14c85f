use Rattle.std.proofs.Common.{◌≡◌, ◌≤◌, drop}
use Rattle.capture_check.specs.Contents.{gapless}
use Rattle.capture_check.specs.Steps.{bodies}
use Rattle.capture_check.proofs.form.gapless.Given as goal

abbrev pub invariant-loop-triple : goal.invariant-loop-triple
invariant-loop-triple l = (l.at ≤ l.end) × (gapless (bodies (drop l.triple-index l.contents)) l.at l.end ≡ gapless (bodies l.contents) l.start l.end)
