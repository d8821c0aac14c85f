-- What the definition gives of the bytes that are left, after the number so far, stays what it gives of the whole text.
use Rattle.std.proofs.Common.{◌≡◌, ◌≤◌, drop}
use Rattle.census.specs.Arguments.{digits_from, width_of}
use Rattle.census.proofs.width_of.Given as goal

abbrev pub invariant-loop-byte : goal.invariant-loop-byte
invariant-loop-byte l = (l.n ≤ 1000) × (digits_from l.n (drop l.byte-index l.text) ≡ width_of l.text)
