-- The loop's invariant: both slices begin with the same i words.
use Rattle.std.proofs.Common.{◌≡◌, length, take}
use Rattle.sources.proofs.words.copy.Given as goal

abbrev pub invariant-loop-i : goal.invariant-loop-i
invariant-loop-i l = (length l.to ≡ length l.from) × (take l.i l.to ≡ take l.i l.from)
