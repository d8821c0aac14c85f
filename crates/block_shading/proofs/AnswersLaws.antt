-- Fragments are answered by the form of the block's words, once the lengths are right: each of the forms leaves one of the cases. Each wrong length is the first
-- refusal, one fragment is a list of one, and of a list each gets what block shading gives it alone. Assumes nothing.
use Prim.Native.Nat.{ℕ, zero, suc, ◌*◌, ◌/◌, ◌%◌, ◌<◌}
use Rattle.std.proofs.Common.{arith, sym, ◌∙◌, length-drop, length-take-le}
use Rattle.std.specs.Prelude.{◌≡◌, Bool, ◌&&◌, List, eqb, length, take, drop, Option, None, Some}
use Rattle.std.proofs.Math.Path.{refl, ap}
use Rattle.std.proofs.Math.Bool.{true, false, cond}
use borrow.Author.Tests.{eq-eqb, ne_eqb, eqb-true}
use Rattle.refusals.specs.Refusals.{block_refusal, tables_refusal, fragment_refusal, answer_refusal}
use Rattle.block.specs.declared.BlockForm.TheVariants.{Off, NotWellFormed}
use Rattle.block.specs.Block.{words, block_lighting, block_reading, words_refusal}
use Rattle.block.specs.Steps.{block_form}
use Rattle.lighting.specs.declared.Lighting.{Lighting}
use Rattle.lighting.specs.Lighting.{off, on}
use Rattle.shading.specs.Shade.{shaded}
use Rattle.block_shading.specs.BlockShading.{block_shading_refusal, shaded_by, block_shading_if, block_shading, fragments_refusal, shade_fragments_refusal, eight_of, eight_of_each, shaded_each_by, shade_fragments_if, shade_fragments}
use Rattle.block_shading.specs.FragmentsLaws.{each_of_one, each_at}
use Rattle.block_reading.specs.FormLaws.{Lit, off_passes, off_reads, bad_refused}

module _ (block tables fragment answer : List ℕ) where
  pub wrong_block : (length block ≡ 328 → ⊥) → shaded 6 answer ≡ block_shading block tables fragment answer
  unfolding block_shading block_shading_if block_shading_refusal block_refusal
  wrong_block n = simp (ne_eqb (length block) 328 n)

  pub wrong_tables : length block ≡ 328 → (length tables ≡ 12288 → ⊥) → shaded 2 answer ≡ block_shading block tables fragment answer
  unfolding block_shading block_shading_if block_shading_refusal block_refusal tables_refusal
  wrong_tables b n = simp (eq-eqb (length block) 328 b, ne_eqb (length tables) 12288 n)

  pub wrong_fragment : length block ≡ 328 → length tables ≡ 12288 → (length fragment ≡ 23 → ⊥) → shaded 9 answer ≡ block_shading block tables fragment answer
  unfolding block_shading block_shading_if block_shading_refusal block_refusal tables_refusal fragment_refusal
  wrong_fragment b t n = simp (eq-eqb (length block) 328 b, eq-eqb (length tables) 12288 t, ne_eqb (length fragment) 23 n)

  pub wrong_answer : length block ≡ 328 → length tables ≡ 12288 → length fragment ≡ 23 → (length answer ≡ 8 → ⊥) → shaded 9 answer ≡ block_shading block tables fragment answer
  unfolding block_shading block_shading_if block_shading_refusal block_refusal tables_refusal fragment_refusal answer_refusal
  wrong_answer b t f n = simp (eq-eqb (length block) 328 b, eq-eqb (length tables) 12288 t, eq-eqb (length fragment) 23 f, ne_eqb (length answer) 8 n)

-- ---- many fragments

pub whole_fragments : (fragments answers : ℕ) → fragments % 23 ≡ 0 → answers ≡ 8 * (fragments / 23) → fragments_refusal fragments answers ≡ 0
unfolding fragments_refusal
whole_fragments fragments answers f a = simp (eq-eqb (fragments % 23) 0 f, eq-eqb answers (8 * (fragments / 23)) a)

module _ (block tables fragments answers : List ℕ) where
  pub wrong_block_of_many : (length block ≡ 328 → ⊥) → shaded 6 answers ≡ shade_fragments block tables fragments answers
  unfolding shade_fragments shade_fragments_if shade_fragments_refusal block_refusal
  wrong_block_of_many n = simp (ne_eqb (length block) 328 n)

  pub wrong_tables_of_many : length block ≡ 328 → (length tables ≡ 12288 → ⊥) → shaded 2 answers ≡ shade_fragments block tables fragments answers
  unfolding shade_fragments shade_fragments_if shade_fragments_refusal block_refusal tables_refusal
  wrong_tables_of_many b n = simp (eq-eqb (length block) 328 b, ne_eqb (length tables) 12288 n)

  pub not_whole : length block ≡ 328 → length tables ≡ 12288 → (length fragments % 23 ≡ 0 → ⊥) → shaded 9 answers ≡ shade_fragments block tables fragments answers
  unfolding shade_fragments shade_fragments_if shade_fragments_refusal block_refusal tables_refusal fragments_refusal
  not_whole b t n = simp (eq-eqb (length block) 328 b, eq-eqb (length tables) 12288 t, ne_eqb (length fragments % 23) 0 n)

  pub not_8_for_each : length block ≡ 328 → length tables ≡ 12288 → length fragments % 23 ≡ 0 → (length answers ≡ 8 * (length fragments / 23) → ⊥) → shaded 9 answers ≡ shade_fragments block tables fragments answers
  unfolding shade_fragments shade_fragments_if shade_fragments_refusal block_refusal tables_refusal fragments_refusal
  not_8_for_each b t f n = simp (eq-eqb (length block) 328 b, eq-eqb (length tables) 12288 t, eq-eqb (length fragments % 23) 0 f, ne_eqb (length answers) (8 * (length fragments / 23)) n)

  module _ (b : length block ≡ 328) (t : length tables ≡ 12288) (f : fragments_refusal (length fragments) (length answers) ≡ 0) where
    passes : shade_fragments_refusal block tables fragments answers ≡ words_refusal (words block)
    unfolding shade_fragments_refusal block_refusal tables_refusal
    passes = simp (eq-eqb (length block) 328 b, eq-eqb (length tables) 12288 t, f)

    numbered : (k : ℕ) → words_refusal (words block) ≡ k → shade_fragments block tables fragments answers ≡ shade_fragments_if k block tables fragments answers
    unfolding shade_fragments
    numbered k e = ap (λ (n : ℕ). shade_fragments_if n block tables fragments answers) (passes ∙ e)

    read_as : (r : Option Lighting) → words_refusal (words block) ≡ 0 → block_reading (words block) ≡ r → shade_fragments block tables fragments answers ≡ shaded_each_by r tables fragments answers
    unfolding shade_fragments_if
    read_as r p e = numbered 0 p ∙ ap (λ (x : Option Lighting). shaded_each_by x tables fragments answers) e

    -- with the right lengths, by the form of the block's words
    pub off_by_form : block_form block ≡ Off → shaded 100 answers ≡ shade_fragments block tables fragments answers
    unfolding shaded_each_by
    off_by_form e = sym (read_as off (off_passes block e) (off_reads block e))

    pub bad_by_form : block_form block ≡ NotWellFormed → shaded 7 answers ≡ shade_fragments block tables fragments answers
    unfolding shade_fragments_if
    bad_by_form e = sym (numbered 7 (bad_refused block b e))

    pub lit_by_form : Lit block → shaded 0 (eight_of_each (block_lighting (words block)) tables (length fragments / 23) fragments) ≡ shade_fragments block tables fragments answers
    unfolding shaded_each_by
    lit_by_form e = sym (read_as (on (block_lighting (words block))) e.passes e.reads)

-- ---- one fragment is a list of one

module _ (block tables fragment answer : List ℕ) (f : length fragment ≡ 23) (a : length answer ≡ 8) where
  same_refusal : block_shading_refusal block tables fragment answer ≡ shade_fragments_refusal block tables fragment answer
  unfolding block_shading_refusal shade_fragments_refusal fragment_refusal answer_refusal fragments_refusal
  same_refusal = rw (f, a) refl

  same_if : (k : ℕ) → block_shading_if k block tables fragment answer ≡ shade_fragments_if k block tables fragment answer
  unfolding block_shading_if shade_fragments_if shaded_by shaded_each_by
  same_if zero = go (block_reading (words block))
    where
      go : (r : Option Lighting) → shaded_by r tables fragment answer ≡ shaded_each_by r tables fragment answer
      go None = refl
      go (Some l) = rw (each_of_one l tables fragment f) refl
  same_if (suc k) = refl

  pub one_fragment : block_shading block tables fragment answer ≡ shade_fragments block tables fragment answer
  unfolding block_shading shade_fragments
  one_fragment = rw same_refusal (same_if (shade_fragments_refusal block tables fragment answer))

  module _ (b : length block ≡ 328) (t : length tables ≡ 12288) where
    passed : fragments_refusal (length fragment) (length answer) ≡ 0
    passed = whole_fragments (length fragment) (length answer) (omega (arith, f)) (omega (arith, f, a))

    pub off_of_one : block_form block ≡ Off → shaded 100 answer ≡ block_shading block tables fragment answer
    off_of_one e = off_by_form block tables fragment answer b t passed e ∙ sym one_fragment

    pub bad_of_one : block_form block ≡ NotWellFormed → shaded 7 answer ≡ block_shading block tables fragment answer
    bad_of_one e = bad_by_form block tables fragment answer b t passed e ∙ sym one_fragment

    pub lit_of_one : Lit block → shaded 0 (eight_of (block_lighting (words block)) tables fragment) ≡ block_shading block tables fragment answer
    lit_of_one e =
        ap (shaded 0) (sym (each_of_one (block_lighting (words block)) tables fragment f)) ∙ lit_by_form block tables fragment answer b t passed e ∙ sym one_fragment

-- ---- each of many

-- fragment k and its answer
abbrev pub fragment_at : List ℕ → ℕ → List ℕ
fragment_at fragments k = take 23 (drop (23 * k) fragments)

abbrev pub answer_at : List ℕ → ℕ → List ℕ
answer_at answers k = take 8 (drop (8 * k) answers)

module _ (block tables fragments answers : List ℕ) (f : fragments_refusal (length fragments) (length answers) ≡ 0) (k : ℕ) (h : k < length fragments / 23) where
  whole : (x y : Bool) → ◌≡◌ {A = ℕ} (cond (x && y) 0 9) 0 → (x ≡ true) × (y ≡ true)
  whole true true e = (refl, refl)
  whole true false e = let z : ◌≡◌ {A = ℕ} 9 0 = e in absurd (omega arith)
  whole false y e = let z : ◌≡◌ {A = ℕ} 9 0 = e in absurd (omega arith)

  lengths : (length fragments % 23 ≡ 0) × (length answers ≡ 8 * (length fragments / 23))
  unfolding fragments_refusal
  lengths =
      let p = whole (eqb (length fragments % 23) 0) (eqb (length answers) (8 * (length fragments / 23))) f in
      (eqb-true _ _ p.0, eqb-true _ _ p.1)

  fragment_long : length (fragment_at fragments k) ≡ 23
  fragment_long = length-take-le 23 (drop (23 * k) fragments) (omega (arith, length-drop (23 * k) fragments))

  answer_long : length (answer_at answers k) ≡ 8
  answer_long = length-take-le 8 (drop (8 * k) answers) (omega (arith, length-drop (8 * k) answers, lengths.1))

  refused_alike : block_shading_refusal block tables (fragment_at fragments k) (answer_at answers k) ≡ shade_fragments_refusal block tables fragments answers
  unfolding block_shading_refusal shade_fragments_refusal fragment_refusal answer_refusal
  refused_alike = rw (fragment_long, answer_long, f) refl

  answered_alike : (n : ℕ) → block_shading_if n block tables (fragment_at fragments k) (answer_at answers k) ≡ shaded (shade_fragments_if n block tables fragments answers).number (answer_at (shade_fragments_if n block tables fragments answers).answer k)
  unfolding block_shading_if shade_fragments_if shaded_by shaded_each_by
  answered_alike zero = go (block_reading (words block))
    where
      go : (r : Option Lighting)
          → shaded_by r tables (fragment_at fragments k) (answer_at answers k)
          ≡ shaded (shaded_each_by r tables fragments answers).number (answer_at (shaded_each_by r tables fragments answers).answer k)
      go None = refl
      go (Some l) = ap (shaded 0) (sym (each_at l tables k (length fragments / 23) fragments h))
  answered_alike (suc n) = refl

  -- of whole fragments, each gets the number and the answer that block shading gives it alone
  pub each_as_alone : block_shading block tables (fragment_at fragments k) (answer_at answers k) ≡ shaded (shade_fragments block tables fragments answers).number (answer_at (shade_fragments block tables fragments answers).answer k)
  unfolding block_shading shade_fragments
  each_as_alone = rw refused_alike (answered_alike (shade_fragments_refusal block tables fragments answers))
