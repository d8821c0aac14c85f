-- There are a quarter as many words as bytes, by induction four bytes at a time. Assumes nothing.
use Rattle.std.specs.Prelude.{ℕ, ◌/◌, ◌≡◌, refl, List, [], ◌∷◌, length}
use Rattle.std.proofs.Common.{arith}
use Rattle.sources.specs.Sources.{words_of}

pub length_words : (l : List ℕ) → length (words_of l) ≡ length l / 4
unfolding words_of
length_words (a ∷ b ∷ c ∷ d ∷ rest) = omega (arith, length_words rest)
length_words (a ∷ b ∷ c ∷ []) = refl
length_words (a ∷ b ∷ []) = refl
length_words (a ∷ []) = refl
length_words [] = refl
