-- What the definition gives from the place on, in a remark or not, stays what it gives from the start.
use Rattle.std.proofs.Common.{◌≡◌, false, drop}
use Rattle.word_text.specs.Text.{next_of}
use Rattle.word_text.proofs.next_word.Given as goal

abbrev pub invariant-loop-i : goal.invariant-loop-i
invariant-loop-i l = next_of l.remark (drop l.i l.text) l.i ≡ next_of false (drop l.at l.text) l.at
