-- Words as bytes, and lists of words compared. Definitions only.
use Rattle.std.specs.Prelude.{ℕ, ◌+◌, ◌*◌, Bool, true, false, ◌&&◌, List, [], ◌∷◌, eqb, get_or}

-- "a word, and each k, is four little-endian bytes"; what is left over at the end is no word
unfoldable pub words_of : List ℕ → List ℕ
words_of (a ∷ b ∷ c ∷ d ∷ rest) = (a + 0x100 * b + 0x1_0000 * c + 0x100_0000 * d) ∷ words_of rest
words_of (a ∷ b ∷ c ∷ []) = []
words_of (a ∷ b ∷ []) = []
words_of (a ∷ []) = []
words_of [] = []

-- the word of four bytes
unfoldable pub word_of : List ℕ → ℕ
word_of bytes = get_or bytes 0 0 + 0x100 * get_or bytes 1 0 + 0x1_0000 * get_or bytes 2 0 + 0x100_0000 * get_or bytes 3 0

-- the same words in the same order
unfoldable pub same_words : List ℕ → List ℕ → Bool
same_words [] [] = true
same_words [] (y ∷ ys) = false
same_words (x ∷ xs) [] = false
same_words (x ∷ xs) (y ∷ ys) = eqb x y && same_words xs ys
