-- So many bytes as were read so far lie within the buffer, and each turn leaves fewer to read.
use Rattle.std.proofs.Common.{◌≡◌, ◌-◌, ◌≤◌, length}
use Rattle.word_text.proofs.read_full.Given as goal

abbrev pub invariant-loop-n : goal.invariant-loop-n
invariant-loop-n g l = (l.n ≤ length l.text) × (length l.text ≡ length l.fn.text)

abbrev pub decreases-loop-n : goal.decreases-loop-n
decreases-loop-n g l = length l.text - l.n
