-- The calls across the C boundary, where they say more than the definitions that their contracts cite elsewhere: a list of writes, the block reader, block
-- shading of bytes, and the census. "Across the boundary these are byte slices: a word, and each k, is four little-endian bytes, and a slice that isn't whole
-- words counts as of wrong length." Definitions only.
use Rattle.std.specs.Prelude.{ℕ, zero, suc, ◌/◌, ◌%◌, List, [], ◌∷◌, cond, eqb, length}
use Rattle.refusals.specs.Refusals.{file_refusal, tables_refusal, ◌else◌}
use Rattle.sources.specs.Sources.{words_of}
use Rattle.tables.specs.Tables.{Writes, writes, write_each}
use Rattle.block.specs.Block.{block_read}
use Rattle.unit.specs.Unit.{read_number}
use Rattle.shading.specs.Shade.{Shaded, shaded}
use Rattle.block_shading.specs.BlockShading.{block_shading}
use Rattle.short_float_census.specs.Census.{four_of, census_of}

-- ---- a list of writes

-- 101 where the words are not in pairs
unfoldable pub pairs_refusal : ℕ → ℕ
pairs_refusal n = cond (eqb (n % 2) 0) 0 101

-- refused by a length, nothing changes, nor does d, the number that tells how many were made
unfoldable pub write_list_if : ℕ → List ℕ → List ℕ → ℕ → List ℕ → ℕ → Writes
write_list_if zero f t g pairs d = write_each (writes 0 0 f t g) pairs
write_list_if (suc k) f t g pairs d = writes (suc k) d f t g

-- file, tables, generation; pairs of register and value; that number
abbrev pub write_list : List ℕ → List ℕ → ℕ → List ℕ → ℕ → Writes
write_list f t g pairs d =
    write_list_if (file_refusal (length f) else tables_refusal (length t) else pairs_refusal (length pairs)) f t g pairs d

-- ---- the block reader

-- the refusal's number, or 0 where the block is lit and 100 where it is off
unfoldable pub block_read_number : List ℕ → ℕ
block_read_number b = (block_read b).number else read_number (block_read b).reading

-- ---- words and bytes

-- the words of a slice: "a slice that isn't whole words counts as of wrong length", so it has none, which is wrong for all four
unfoldable pub whole_words : List ℕ → List ℕ
whole_words bytes = cond (eqb (length bytes % 4) 0) (words_of bytes) []

-- the bytes of words: "four little-endian bytes", the least first
unfoldable pub bytes_of : List ℕ → List ℕ
bytes_of [] = []
bytes_of (w ∷ ws) = w % 0x100 ∷ w / 0x100 % 0x100 ∷ w / 0x1_0000 % 0x100 ∷ w / 0x100_0000 ∷ bytes_of ws

-- ---- block shading

-- "It returns 0, a refusal's number, or, past all refusals, 100 for an off block, whose answer slice is left untouched": only 0 writes, the eight k
unfoldable pub answer_bytes : Shaded → List ℕ → Shaded
answer_bytes s answer = shaded s.number (cond (eqb s.number 0) (bytes_of s.answer) answer)

-- "takes words, tables and a fragment as slices across the C boundary and writes eight k in the printed order": block, tables, fragment, answer
unfoldable pub shade_bytes : List ℕ → List ℕ → List ℕ → List ℕ → Shaded
shade_bytes block tables fragment answer =
    answer_bytes (block_shading (whole_words block) (whole_words tables) (whole_words fragment) (whole_words answer)) answer

-- ---- the census of short floats

pub record Censused : Type 0 where
  pub number : ℕ
  pub totals : List ℕ

abbrev pub censused : ℕ → List ℕ → Censused
censused k t = record { number = k; totals = t }

-- zeros, infinities, NaNs and other numbers; 101 where there are not four words for them, which then stay
unfoldable pub census_words : ℕ → ℕ → List ℕ → Censused
census_words m e t = cond (eqb (length t) 4) (censused 0 (four_of (census_of m e))) (censused 101 t)
