-- The runs of four that a list of bytes begins with are its words, by induction four bytes at a time. Assumes nothing.
use Rattle.std.specs.Prelude.{ℕ, zero, suc, ◌/◌, ◌≡◌, refl, List, [], ◌∷◌, length, map}
use Rattle.std.proofs.Common.{arith, ap}
use Rattle.std.specs.Simd.{first_chunks}
use Rattle.sources.specs.Sources.{word_of, words_of}

runs : (k : ℕ) (l : List ℕ) → length l / 4 ≡ k → map word_of (first_chunks 4 k l) ≡ words_of l
unfolding words_of word_of
runs zero (a ∷ b ∷ c ∷ d ∷ rest) e = absurd (omega arith)
runs (suc k) (a ∷ b ∷ c ∷ d ∷ rest) e = ap (λ (r : List ℕ). word_of (a ∷ b ∷ c ∷ d ∷ []) ∷ r) (runs k rest (omega arith))
runs zero (a ∷ b ∷ c ∷ []) e = refl
runs (suc k) (a ∷ b ∷ c ∷ []) e = absurd (omega arith)
runs zero (a ∷ b ∷ []) e = refl
runs (suc k) (a ∷ b ∷ []) e = absurd (omega arith)
runs zero (a ∷ []) e = refl
runs (suc k) (a ∷ []) e = absurd (omega arith)
runs zero [] e = refl
runs (suc k) [] e = absurd (omega arith)

pub runs_are_words : (l : List ℕ) → map word_of (first_chunks 4 (length l / 4) l) ≡ words_of l
runs_are_words l = runs (length l / 4) l refl

-- the values of words that are words are these
pub word_values : (l : List ℕ) → map (λ (n : ℕ). n) l ≡ l
word_values [] = refl
word_values (x ∷ l) = ap (λ (r : List ℕ). x ∷ r) (word_values l)
