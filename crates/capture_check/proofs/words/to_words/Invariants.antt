use Rattle.std.proofs.Common.{map, ◌≡◌, ◌/◌, length, drop}
use Rattle.sources.specs.Sources.{word_of, words_of}
use Rattle.printing.specs.Steps.{out, puts}
use Rattle.capture_check.proofs.words.to_words.Given as goal

abbrev pub invariant-loop-i : goal.invariant-loop-i
invariant-loop-i l = (length l.from ≡ length l.input / 4) × (map word_of l.from ≡ words_of l.input) × (length l.words ≡ length l.initial.words) × (puts (out l.words l.i) (drop l.i (words_of l.input)) ≡ puts (out l.initial.words 0) (words_of l.input))
