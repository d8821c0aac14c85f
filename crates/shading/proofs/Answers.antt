-- The answers of `shade`, each by the tests that led to it, and what a lighting in range gives the sums. Assumes nothing.
use Rattle.std.proofs.Common.{◌≡◌, ℕ, ◌+◌, ◌≤◌, true, false, List, ◌++◌, map, length, take, drop, ap, ◌∙◌, append-nil, arith, drop_of_length-le, eq-eqb, ne_eqb}
use Rattle.sources.proofs.WordsLaws.{word_values}
use lib.Ieee.{Float}
use Rattle.refusals.specs.Refusals.{tables_refusal, answer_refusal}
use Rattle.lighting.specs.declared.Lighting.{Lighting}
use Rattle.block.specs.Block.{accepted, lighting_refusal}
use Rattle.lighting.specs.Lighting.{slot_of, light_at, in_range}
use Rattle.block.proofs.PackedLaws.{range_number}
use Rattle.shading.specs.Steps.{shade_of, Numbered}
use Rattle.shading.proofs.ShadeLaws.{shade_law}
use Rattle.shading.specs.Shade.{shaded, shade_refusal, shades}

module _ (l : Lighting) (tables : List ℕ) (quaternion view : List Float) (texels : List (List Float)) (answer : List ℕ) where
  pub wrong_tables : (length tables ≡ 12288 → ⊥) → shaded 2 answer ≡ shades l tables quaternion view texels answer
  unfolding shades shade_refusal tables_refusal
  wrong_tables n = simp (ne_eqb (length tables) 12288 n)

  pub wrong_answer : length tables ≡ 12288 → (length answer ≡ 8 → ⊥) → shaded 9 answer ≡ shades l tables quaternion view texels answer
  unfolding shades shade_refusal tables_refusal answer_refusal
  wrong_answer e n = simp (eq-eqb (length tables) 12288 e, ne_eqb (length answer) 8 n)

  pub refused : length tables ≡ 12288 → length answer ≡ 8 → accepted l ≡ false → shaded 7 answer ≡ shades l tables quaternion view texels answer
  unfolding shades shade_refusal tables_refusal answer_refusal lighting_refusal
  refused e f n = simp (eq-eqb (length tables) 12288 e, eq-eqb (length answer) 8 f, n)

  pub done : (k : List ℕ)
      → length tables ≡ 12288
      → length answer ≡ 8
      → accepted l ≡ true
      → k ≡ shade_of l tables quaternion view texels
      → shaded 0 k ≡ shades l tables quaternion view texels answer
  unfolding shades shade_refusal tables_refusal answer_refusal lighting_refusal
  done k e f a p = simp (eq-eqb (length tables) 12288 e, eq-eqb (length answer) 8 f, a, p, shade_law)

-- eight channels in eight words are the answer
pub eight : (l : Lighting) (tables : List ℕ) (quaternion view : List Float) (texels : List (List Float)) (answer k written : List ℕ)
    → length tables ≡ 12288
    → length answer ≡ 8
    → accepted l ≡ true
    → k ≡ shade_of l (map (λ (n : ℕ). n) tables) quaternion view texels
    → written ≡ take 0 answer ++ (k ++ drop (0 + 8) answer)
    → shaded 0 written ≡ shades l tables quaternion view texels answer
eight l tables quaternion view texels answer k written e f a p w =
    done l tables quaternion view texels answer written e f a
    (w
    ∙ ap (λ (r : List ℕ). k ++ r) (drop_of_length-le answer {i = 0 + 8} (omega arith))
    ∙ append-nil k
    ∙ p
    ∙ ap (λ (t : List ℕ). shade_of l t quaternion view texels) (word_values tables))

-- an accepted count, and numbers of at most 7
pub numbered : (l : Lighting) → in_range l ≡ true → Numbered l.lights l.light_count
unfolding light_at
numbered l h k n = let m : (light_at l (slot_of k)).number.0 ≤ 7 = range_number l h k n in omega arith
