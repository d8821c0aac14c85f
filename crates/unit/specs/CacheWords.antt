-- The cached read and the hand-over on a cache that is words lent by the caller: a flag, 0 for an empty cache; the 139 kept words; and the block of
-- their lighting, 328 words, all zero for off. Meaning says what they come to in Unit's terms. Definitions only.
use Rattle.std.specs.Prelude.{ℕ, zero, suc, ◌+◌, List, ◌∷◌, ◌++◌, Bool, not, ◌&&◌, ◌||◌, eqb, length, get_or, take, drop, replicate, if◌then◌else◌}
use Rattle.refusals.specs.Refusals.{file_refusal, block_refusal, ◌else◌}
use Rattle.sources.specs.Sources.{same_words}
use Rattle.decoding.specs.Read.{read, registers_read, registers_read_count}
use Rattle.block.specs.Block.{words, all_zero, well_formed, packed_reading}
use Rattle.unit.specs.Unit.{Cached, cached, CachedBlock, cached_block, Handed, handed, hand_over_refusal}

-- ---- The words of a cache

-- where the block begins, and the words of a cache: 140 and 468
abbrev pub block_place : ℕ
block_place = 1 + registers_read_count

abbrev pub cache_count : ℕ
cache_count = block_place + 328

-- the three parts
abbrev pub cache_flag : List ℕ → ℕ
cache_flag c = get_or c 0 0

abbrev pub cache_kept : List ℕ → List ℕ
cache_kept c = take registers_read_count (drop 1 c)

abbrev pub cache_block : List ℕ → List ℕ
cache_block c = drop block_place c

-- the empty cache
unfoldable pub empty_words : List ℕ
empty_words = replicate cache_count 0

-- a cache of n words
unfoldable pub cache_refusal : ℕ → ℕ
cache_refusal n = if eqb n cache_count then 0 else 101

-- a block that block shading takes: off, or well formed
unfoldable pub formed : List ℕ → Bool
formed b = all_zero (words b) || well_formed (words b)

-- ---- The cached read

-- the cache is not empty, and its words are the file's
unfoldable pub current_words : List ℕ → List ℕ → Bool
current_words f c = not (eqb (cache_flag c) 0) && same_words (cache_kept c) (registers_read f)

-- the words and the block of their lighting
unfoldable pub anew_words : List ℕ → List ℕ
anew_words f = 1 ∷ (registers_read f ++ packed_reading (read f))

-- the cache after a read that is not refused
unfoldable pub refreshed_words : List ℕ → List ℕ → List ℕ
refreshed_words f c = if current_words f c then c else anew_words f

-- refused, nothing changes
unfoldable pub cached_words_if : ℕ → List ℕ → List ℕ → Cached (List ℕ)
cached_words_if zero f c = cached 0 (refreshed_words f c)
cached_words_if (suc k) f c = cached (suc k) c

-- file, cache: "1", then 101
abbrev pub cached_read_words : List ℕ → List ℕ → Cached (List ℕ)
cached_read_words f c = cached_words_if (file_refusal (length f) else cache_refusal (length c)) f c

-- ---- The cached read and its pack, as they cross the C boundary

-- 0 for a block that is lit, 100 for one that is off
unfoldable pub block_number : List ℕ → ℕ
block_number b = if all_zero (words b) then 100 else 0

-- n is the cache that the read left: 7 for a kept block, made by the caller, that is neither off nor well formed
unfoldable pub packs_cached_words : List ℕ → List ℕ → List ℕ → CachedBlock (List ℕ)
packs_cached_words n c b =
    if formed (cache_block n) then cached_block (block_number (cache_block n)) n (cache_block n) else cached_block 7 c b

-- refused, nothing changes
unfoldable pub cached_read_packed_words_if : ℕ → List ℕ → List ℕ → List ℕ → CachedBlock (List ℕ)
cached_read_packed_words_if zero f c b = packs_cached_words (refreshed_words f c) c b
cached_read_packed_words_if (suc k) f c b = cached_block (suc k) c b

-- file, cache, block: "1", "6", then 101, then 7
abbrev pub cached_read_packed_words : List ℕ → List ℕ → List ℕ → CachedBlock (List ℕ)
cached_read_packed_words f c b =
    cached_read_packed_words_if (file_refusal (length f) else block_refusal (length b) else cache_refusal (length c)) f c b

-- ---- The hand-over

-- the copy takes the block of the cache n that the read left, and at another generation the tables and the generation
unfoldable pub taken_words : List ℕ → List ℕ → ℕ → List ℕ → ℕ → Handed (List ℕ)
taken_words n t g ct cg = if eqb g cg then handed 0 n (cache_block n) ct cg else handed 0 n (cache_block n) t g

-- past the refusals by length: 7 for a kept block, made by the caller, that is neither off nor well formed
unfoldable pub hand_over_words_read : List ℕ → List ℕ → ℕ → List ℕ → List ℕ → List ℕ → ℕ → Handed (List ℕ)
hand_over_words_read n t g c b ct cg = if formed (cache_block n) then taken_words n t g ct cg else handed 7 c b ct cg

-- refused, nothing changes
unfoldable pub hand_over_words_if : ℕ → List ℕ → List ℕ → ℕ → List ℕ → List ℕ → List ℕ → ℕ → Handed (List ℕ)
hand_over_words_if zero f t g c b ct cg = hand_over_words_read (refreshed_words f c) t g c b ct cg
hand_over_words_if (suc k) f t g c b ct cg = handed (suc k) c b ct cg

-- the unit's file, tables, generation and cache; the copy's block, tables and generation: "1; 2 unit's tables, then copy's; 6", then 101
abbrev pub hand_over_words : List ℕ → List ℕ → ℕ → List ℕ → List ℕ → List ℕ → ℕ → Handed (List ℕ)
hand_over_words f t g c b ct cg =
    hand_over_words_if (hand_over_refusal (length f) (length t) (length ct) (length b) else cache_refusal (length c)) f t g c b ct cg
