-- What the definition gives from the place on, with the digits so far, stays what it gives from the start, and k digits are below 16 to the k.
use Rattle.std.proofs.Common.{◌≡◌, ◌+◌, ◌-◌, ◌^◌, ◌<◌, drop}
use Rattle.word_text.specs.Text.{digits_of}
use Rattle.word_text.proofs.digits.Given as goal

abbrev pub invariant-loop-i : goal.invariant-loop-i
invariant-loop-i l =
    (digits_of (l.at + 8 - l.i) l.n (drop l.i l.text) l.i ≡ digits_of 8 0 (drop l.at l.text) l.at) × (l.n < 16 ^ (l.i - l.at))
