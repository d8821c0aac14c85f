-- Document 01's whole case is accepted, and captures with one thing wrong are refused; by computing.
use Prim.Native.Nat.{ℕ}
use mathlib.Core.Path.{◌≡◌, refl}
use mathlib.Core.List.{List, [], ◌∷◌, ◌++◌}
use lib.ListN.{replicate}
use Rattle.sources.specs.Sources.{words_of}
use Rattle.capture_check.specs.Contents.{triples, sized, size_right, lies, gapless, shaped, registers_in, body_right, registers_right, capture_words_refusal, capture_refusal}

-- "2, 1, 7, A, 2, 11, 17, then 8F 1, 142 FF3FCFF, 145 3C00, 149 1, 1C4 FFFFFFFF, then 23 zeros"
pub whole_case : List ℕ
whole_case =
    2 ∷ 1 ∷ 7 ∷ 0xA ∷ 2 ∷ 0x11 ∷ 0x17 ∷ 0x8F ∷ 1 ∷ 0x142 ∷ 0xFF3FCFF ∷ 0x145 ∷ 0x3C00 ∷ 0x149 ∷ 1 ∷ 0x1C4 ∷ 0xFFFFFFFF ∷ replicate 23 0

pub whole_case_accepted : capture_words_refusal whole_case ≡ 0
unfolding whole_case triples size_right lies gapless shaped registers_in body_right registers_right capture_words_refusal
whole_case_accepted = refl

pub word_after_refused : capture_words_refusal (whole_case ++ (0 ∷ [])) ≡ 8
unfolding whole_case triples size_right lies gapless shaped registers_in body_right registers_right capture_words_refusal
word_after_refused = refl

-- no body
pub nothing_accepted : capture_refusal (0 ∷ 0 ∷ 0 ∷ 0 ∷ []) ≡ 0
unfolding words_of triples sized gapless shaped registers_right capture_words_refusal capture_refusal
nothing_accepted = refl

pub empty_refused : capture_refusal [] ≡ 8
unfolding words_of sized capture_refusal
empty_refused = refl

-- kind 1, its register 474
pub high_register_refused : capture_words_refusal (1 ∷ 1 ∷ 4 ∷ 2 ∷ 474 ∷ 0 ∷ []) ≡ 3
unfolding triples size_right lies gapless shaped registers_in body_right registers_right capture_words_refusal
high_register_refused = refl

-- the same beside a body of an unknown kind
pub form_before_registers : capture_words_refusal (2 ∷ 1 ∷ 7 ∷ 2 ∷ 4 ∷ 9 ∷ 0 ∷ 474 ∷ 0 ∷ []) ≡ 8
unfolding triples size_right lies gapless shaped registers_in body_right registers_right capture_words_refusal
form_before_registers = refl
