-- The list of quotients as the code's table has it, two words to an entry. Nobody has to trust it: the contract of `colour_word` cites the list itself.
-- Definitions only.
use Rattle.std.specs.Prelude.{ℕ, ◌+◌, ◌*◌, List, [], ◌∷◌}
use Rattle.quotients.specs.Steps.{quotient_words}

-- neighbours in one word of 64 bits, the first in its low half
unfoldable pub pairs_of : List ℕ → List ℕ
pairs_of [] = []
pairs_of (a ∷ []) = a ∷ []
pairs_of (a ∷ b ∷ ws) = (a + b * 0x100000000) ∷ pairs_of ws

unfoldable pub quotient_pairs : List ℕ
quotient_pairs = pairs_of quotient_words
