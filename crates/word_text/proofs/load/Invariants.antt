-- What the definition puts from the place on, into the list so far, stays what it puts from the start.
use Rattle.std.proofs.Common.{◌≡◌, ◌-◌, length}
use Rattle.word_text.specs.Load.{loaded}
use Rattle.word_text.proofs.load.Given as goal

abbrev pub invariant-loop-n : goal.invariant-loop-n
invariant-loop-n l = loaded (length l.out - l.n) l.text l.at l.n l.out ≡ loaded (length l.fn.out) l.text 0 0 l.fn.out
