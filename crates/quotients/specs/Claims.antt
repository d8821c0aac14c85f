-- What is said of the list of quotients: the one test, and the rule that it shows. Statements only.
use Rattle.std.specs.Prelude.{ℕ, zero, suc, ◌<◌, ◌≡◌, List, [], ◌∷◌, pos, get_or}
use Rattle.std.specs.Float.{binary32}
use Rattle.std.specs.Float.Ieee.{div, of_int, to_bits}
use Rattle.quotients.specs.Steps.{quotient_words}

-- k over 255, rounded once, as a word
unfoldable pub quotient_word : ℕ → ℕ
quotient_word k = to_bits binary32 (div binary32 (of_int binary32 (pos k)) (of_int binary32 (pos 255)))

-- f's n values from i on
unfoldable pub values_of : (ℕ → ℕ) → ℕ → ℕ → List ℕ
values_of f i zero = []
values_of f i (suc n) = f i ∷ values_of f (suc i) n

-- the whole list is that of the quotients
unfoldable pub AllQuotients : Type 0
AllQuotients = quotient_words ≡ values_of quotient_word 0 1024

-- entry k of the list is k over 255
unfoldable pub Rule : Type 0
Rule = (k : ℕ) → k < 1024 → get_or quotient_words k 0 ≡ quotient_word k
