-- Block shading: a fragment shaded from a block and the tables alone. A fragment's 23 words, what block shading answers with its refusals, and the same of many
-- fragments. Definitions only. The contracts of `block_shading::shade_block` and `shade_fragments` are `block_shading` and `shade_fragments`; the eight k are
-- `shade`'s (Shade of shading).
use Rattle.std.specs.Prelude.{ℕ, zero, suc, ◌+◌, ◌*◌, ◌/◌, ◌%◌, List, [], ◌∷◌, ◌++◌, cond, ◌&&◌, eqb, get_or, length, take, drop, Float, Option, None, Some}
use Rattle.refusals.specs.Refusals.{block_refusal, tables_refusal, fragment_refusal, answer_refusal, ◌else◌}
use Rattle.binary32.specs.Binary32.{float_of}
use Rattle.lighting.specs.declared.Lighting.{Lighting}
use Rattle.block.specs.Block.{words, block_reading, words_refusal}
use Rattle.shading.specs.Shade.{shade}
-- a number, and the answer slice afterwards
pub use Rattle.shading.specs.Shade.{Shaded, shaded}

-- ---- A fragment: "23 words (quaternion, view, texels)"

-- the float of word i
unfoldable pub float_at : List ℕ → ℕ → Float
float_at q i = float_of (get_or q i 0)

-- four floats from word i on
unfoldable pub four_at : List ℕ → ℕ → List Float
four_at q i = float_at q i ∷ float_at q (i + 1) ∷ float_at q (i + 2) ∷ float_at q (i + 3) ∷ []

unfoldable pub quaternion_of : List ℕ → List Float
quaternion_of q = four_at q 0

unfoldable pub view_of : List ℕ → List Float
view_of q = float_at q 4 ∷ float_at q 5 ∷ float_at q 6 ∷ []

-- four texels of four channels each
unfoldable pub texels_of : List ℕ → List (List Float)
texels_of q = four_at q 7 ∷ four_at q 11 ∷ four_at q 15 ∷ four_at q 19 ∷ []

-- the eight k, in the printed order, of a lighting, the tables and a fragment's words
unfoldable pub eight_of : Lighting → List ℕ → List ℕ → List ℕ
eight_of l tables fragment = shade l tables (quaternion_of fragment) (view_of fragment) (texels_of fragment)

-- ---- What block shading answers

-- "6; 2; 9 fragment not 23 words or answer not 8; 7"
unfoldable pub block_shading_refusal : List ℕ → List ℕ → List ℕ → List ℕ → ℕ
block_shading_refusal block tables fragment answer =
    block_refusal (length block)
    else tables_refusal (length tables)
    else fragment_refusal (length fragment)
    else answer_refusal (length answer)
    else words_refusal (words block)

-- "past all refusals, 100 for an off block, whose answer slice is left untouched"
unfoldable pub shaded_by : Option Lighting → List ℕ → List ℕ → List ℕ → Shaded
shaded_by None tables fragment answer = shaded 100 answer
shaded_by (Some l) tables fragment answer = shaded 0 (eight_of l tables fragment)

-- a refusal leaves the answer untouched
unfoldable pub block_shading_if : ℕ → List ℕ → List ℕ → List ℕ → List ℕ → Shaded
block_shading_if zero block tables fragment answer = shaded_by (block_reading (words block)) tables fragment answer
block_shading_if (suc k) block tables fragment answer = shaded (suc k) answer

-- block, tables, fragment, answer
unfoldable pub block_shading : List ℕ → List ℕ → List ℕ → List ℕ → Shaded
block_shading block tables fragment answer =
    block_shading_if (block_shading_refusal block tables fragment answer) block tables fragment answer

-- ---- Many fragments, from one block

-- the eight k of each of n fragments, one after another in the words ws
unfoldable pub eight_of_each : Lighting → List ℕ → ℕ → List ℕ → List ℕ
eight_of_each l tables zero ws = []
eight_of_each l tables (suc n) ws = eight_of l tables (take 23 ws) ++ eight_of_each l tables n (drop 23 ws)

-- 9 where they are not whole fragments, or not 8 answers for each: by the number of words of both
unfoldable pub fragments_refusal : ℕ → ℕ → ℕ
fragments_refusal fragments answers = cond (eqb (fragments % 23) 0 && eqb answers (8 * (fragments / 23))) 0 9

-- 6; 2; 9; 7, as block shading has them
unfoldable pub shade_fragments_refusal : List ℕ → List ℕ → List ℕ → List ℕ → ℕ
shade_fragments_refusal block tables fragments answers =
    block_refusal (length block)
    else tables_refusal (length tables)
    else fragments_refusal (length fragments) (length answers)
    else words_refusal (words block)

-- 100 for an off block, whose answers are left untouched
unfoldable pub shaded_each_by : Option Lighting → List ℕ → List ℕ → List ℕ → Shaded
shaded_each_by None tables fragments answers = shaded 100 answers
shaded_each_by (Some l) tables fragments answers = shaded 0 (eight_of_each l tables (length fragments / 23) fragments)

unfoldable pub shade_fragments_if : ℕ → List ℕ → List ℕ → List ℕ → List ℕ → Shaded
shade_fragments_if zero block tables fragments answers = shaded_each_by (block_reading (words block)) tables fragments answers
shade_fragments_if (suc k) block tables fragments answers = shaded (suc k) answers

-- block, tables, fragments, answers
unfoldable pub shade_fragments : List ℕ → List ℕ → List ℕ → List ℕ → Shaded
shade_fragments block tables fragments answers =
    shade_fragments_if (shade_fragments_refusal block tables fragments answers) block tables fragments answers
