-- A slice has 4 n bytes exactly if its words are n, whole words or none being counted. So each of block shading's answers is that of the bytes: a refusal by
-- its length, or what the block gives the fragment. Assumes nothing.
use Rattle.std.specs.Prelude.{ℕ, zero, suc, ◌+◌, ◌*◌, ◌/◌, ◌%◌, ◌≤◌, ◌<◌, ◌≡◌, Bool, true, false, cond, List, [], ◌∷◌, eqb, length, get_or}
use Rattle.std.proofs.Common.{arith, subst, sym, ◌∙◌, eq-eqb, ne_eqb, eqb-true}
use Rattle.std.proofs.Math.Path.{refl, ap}
use Rattle.sources.specs.Sources.{words_of}
use Rattle.sources.specs.SourcesLaws.{length_words}
use Rattle.lighting_abi.specs.Steps.{given, word_at}
use Rattle.lighting_abi.specs.Boundary.{bytes_of, whole_words, answer_bytes, shade_bytes}
use Rattle.shading.specs.Shade.{Shaded, shaded}
use Rattle.block_shading.specs.BlockShading.{eight_of, block_shading}
use Rattle.block_shading.proofs.AnswersLaws.{wrong_block, wrong_tables, wrong_fragment, wrong_answer, off_of_one, bad_of_one, lit_of_one}
use Rattle.block.specs.Block.{words, block_lighting}
use Rattle.block.specs.Steps.{block_form}
use Rattle.block.specs.declared.BlockForm.TheVariants.{Off, NotWellFormed}
use Rattle.block_reading.specs.FormLaws.{Lit}

-- n words
pub right_length : (b : List ℕ) (n : ℕ) → length b ≡ 4 * n → length (whole_words b) ≡ n
unfolding whole_words
right_length b n e = rw (eq-eqb (length b % 4) 0 (omega arith)) (omega (arith, length_words b))

wrong_by : (b : List ℕ) (n : ℕ) → 0 < n → (whole : Bool) → eqb (length b % 4) 0 ≡ whole → (length b ≡ 4 * n → ⊥) → length (cond whole (words_of b) []) ≡ n → ⊥
wrong_by b n h true w k e = let z : length b % 4 ≡ 0 = eqb-true (length b % 4) 0 w in k (omega (arith, length_words b))
wrong_by b n h false w k e = omega arith

pub wrong_length : (b : List ℕ) (n : ℕ) → 0 < n → (length b ≡ 4 * n → ⊥) → length (whole_words b) ≡ n → ⊥
unfolding whole_words
wrong_length b n h k e = wrong_by b n h (eqb (length b % 4) 0) refl k e

-- the words of whole words are those of the bytes
pub words_whole : (b : List ℕ) (n : ℕ) → 0 < n → length b ≡ 4 * n → words_of b ≡ whole_words b
unfolding whole_words
words_whole b n h e = rw (eq-eqb (length b % 4) 0 (omega arith)) refl

pub words_length : (b : List ℕ) (n : ℕ) → 0 < n → length b ≡ 4 * n → length (words_of b) ≡ n
words_length b n h e = ap length (words_whole b n h e) ∙ right_length b n e

-- word i of some bytes is made of the four from 4 i on
pub word_at_lem : (l : List ℕ) (i : ℕ) → 4 * i + 4 ≤ length l → get_or (words_of l) i 0 ≡ word_at l i
unfolding words_of word_at
word_at_lem (a ∷ b ∷ c ∷ d ∷ rest) zero h = refl
word_at_lem (a ∷ b ∷ c ∷ d ∷ rest) (suc i) h =
    let e0 : 4 * suc i ≡ suc (suc (suc (suc (4 * i)))) = omega arith in
    let e1 : 4 * suc i + 1 ≡ suc (suc (suc (suc (4 * i + 1)))) = omega arith in
    let e2 : 4 * suc i + 2 ≡ suc (suc (suc (suc (4 * i + 2)))) = omega arith in
    let e3 : 4 * suc i + 3 ≡ suc (suc (suc (suc (4 * i + 3)))) = omega arith in
    rw (e1, e2, e3, e0) (word_at_lem rest i (omega arith))
word_at_lem (a ∷ b ∷ c ∷ []) i h = absurd (omega arith)
word_at_lem (a ∷ b ∷ []) i h = absurd (omega arith)
word_at_lem (a ∷ []) i h = absurd (omega arith)
word_at_lem [] i h = absurd (omega arith)

-- with no bytes the words are those of the slice of words, with some they are those of the bytes
pub given-words : (words bytes : List ℕ) → length bytes ≡ 0 → given words bytes ≡ words
unfolding given
given-words words bytes e = rw (eq-eqb (length bytes) 0 e) refl

pub given_bytes : (words bytes : List ℕ) → (length bytes ≡ 0 → ⊥) → given words bytes ≡ words_of bytes
unfolding given
given_bytes words bytes h = rw (ne_eqb (length bytes) 0 h) refl

-- how far the words reach
pub in_words : (words bytes : List ℕ) (i : ℕ) → length bytes ≡ 0 → i < length (given words bytes) → i < length words
in_words words bytes i e h = rw (given-words words bytes e) at h

pub in_bytes : (words bytes : List ℕ) (i : ℕ) → (length bytes ≡ 0 → ⊥) → i < length (given words bytes) → i < length bytes / 4
in_bytes words bytes i e h = rw (given_bytes words bytes e, length_words bytes) at h

-- with no slice of words, the words are those of the bytes
pub given_whole : (b : List ℕ) (n : ℕ) → 0 < n → length b ≡ 4 * n → given [] b ≡ whole_words b
given_whole b n h e = given_bytes [] b (λ z. let q : length b ≡ 0 = z in omega arith) ∙ words_whole b n h e

pub given-length : (b : List ℕ) (n : ℕ) → 0 < n → length b ≡ 4 * n → length (given [] b) ≡ n
given-length b n h e = ap length (given_whole b n h e) ∙ right_length b n e

-- a number that isn't 0 leaves the bytes
left : (k : ℕ) (s : Shaded) (words answer : List ℕ) → eqb k 0 ≡ false → shaded k words ≡ s → shaded k answer ≡ answer_bytes s answer
unfolding answer_bytes
left k s words answer z e = subst (λ (x : Shaded). shaded k answer ≡ answer_bytes x answer) e (rw z refl)

module _ (block tables fragment answer : List ℕ) where
  pub bad_block : (length block ≡ 1312 → ⊥) → shaded 6 answer ≡ shade_bytes block tables fragment answer
  unfolding shade_bytes
  bad_block n = left 6 _ _ answer refl (wrong_block (whole_words block) (whole_words tables) (whole_words fragment) (whole_words answer) (wrong_length block 328 (omega arith) n))

  module _ (b : length block ≡ 1312) where
    pub bad_tables : (length tables ≡ 49152 → ⊥) → shaded 2 answer ≡ shade_bytes block tables fragment answer
    unfolding shade_bytes
    bad_tables n =
        left 2 _ _ answer refl
        (wrong_tables (whole_words block) (whole_words tables) (whole_words fragment) (whole_words answer) (right_length block 328 b) (wrong_length tables 12288 (omega arith) n))

    module _ (t : length tables ≡ 49152) where
      pub bad_fragment : (length fragment ≡ 92 → ⊥) → shaded 9 answer ≡ shade_bytes block tables fragment answer
      unfolding shade_bytes
      bad_fragment n =
          left 9 _ _ answer refl
          (wrong_fragment (whole_words block) (whole_words tables) (whole_words fragment) (whole_words answer) (right_length block 328 b) (right_length tables 12288 t) (wrong_length fragment 23 (omega arith) n))

      module _ (f : length fragment ≡ 92) where
        pub short_answer : (length answer ≡ 32 → ⊥) → shaded 9 answer ≡ shade_bytes block tables fragment answer
        unfolding shade_bytes
        short_answer n =
            left 9 _ _ answer refl
            (wrong_answer (whole_words block) (whole_words tables) (whole_words fragment) (whole_words answer) (right_length block 328 b) (right_length tables 12288 t) (right_length fragment 23 f) (wrong_length answer 8 (omega arith) n))

        -- the right lengths

        module _ (a : length answer ≡ 32) where
          gb : words_of block ≡ whole_words block
          gb = words_whole block 328 (omega arith) b

          gt : words_of tables ≡ whole_words tables
          gt = words_whole tables 12288 (omega arith) t

          gf : words_of fragment ≡ whole_words fragment
          gf = words_whole fragment 23 (omega arith) f

          -- the right lengths for block shading of the words
          by_words : (s : Shaded) → (length (whole_words fragment) ≡ 23 → length (whole_words answer) ≡ 8 → length (whole_words block) ≡ 328 → length (whole_words tables) ≡ 12288 → s ≡ block_shading (whole_words block) (whole_words tables) (whole_words fragment) (whole_words answer)) → answer_bytes s answer ≡ shade_bytes block tables fragment answer
          unfolding shade_bytes
          by_words s k = ap (λ (x : Shaded). answer_bytes x answer) (k (right_length fragment 23 f) (right_length answer 8 a) (right_length block 328 b) (right_length tables 12288 t))

          pub lit_bytes : Lit (words_of block) → shaded 0 (bytes_of (eight_of (block_lighting (words (words_of block))) (words_of tables) (words_of fragment))) ≡ shade_bytes block tables fragment answer
          unfolding answer_bytes
          lit_bytes h =
              let lit : Lit (whole_words block) = subst Lit gb h in
              rw (gb, gt, gf) (by_words _ (λ m n o p. lit_of_one (whole_words block) (whole_words tables) (whole_words fragment) (whole_words answer) m n o p lit))

          pub off_bytes : block_form (words_of block) ≡ Off → shaded 100 answer ≡ shade_bytes block tables fragment answer
          unfolding answer_bytes
          off_bytes h = by_words _ (λ m n o p. off_of_one (whole_words block) (whole_words tables) (whole_words fragment) (whole_words answer) m n o p (ap block_form (sym gb) ∙ h))

          pub bad_bytes : block_form (words_of block) ≡ NotWellFormed → shaded 7 answer ≡ shade_bytes block tables fragment answer
          unfolding answer_bytes
          bad_bytes h = by_words _ (λ m n o p. bad_of_one (whole_words block) (whole_words tables) (whole_words fragment) (whole_words answer) m n o p (ap block_form (sym gb) ∙ h))
