-- A unit's cache and the two calls that go through it: the cached read, which is the Rust's `LastLighting::read`, and the hand-over to a copy; and the reads as
-- they cross the C boundary. Definitions only; the contracts of `fresh_cache`, `cached_read`, `hand_over` and `lent::read_packed` cite them, those of `lent`'s
-- other calls by way of Meaning.
use Rattle.std.specs.Prelude.{ℕ, zero, suc, List, Bool, true, false, eqb, length, Option, None, Some, Result, Ok, Err, if◌then◌else◌}
use Rattle.refusals.specs.declared.Refusal.{Refusal}
use Rattle.refusals.specs.Refusals.{number_of, file_refusal, tables_refusal, block_refusal, ◌else◌}
use Rattle.sources.specs.Sources.{same_words}
use Rattle.lighting.specs.Lighting.{off}
use Rattle.lighting.specs.declared.Lighting.{Lighting}
use Rattle.decoding.specs.Read.{read, registers_read}
use Rattle.block.specs.Block.{accepted, packed_reading, Packing, packing}
use Rattle.unit.specs.declared.Cache.{Cache}

-- ---- The cache

-- "Fresh: all zero, cache empty."
unfoldable pub fresh_cache : Cache
fresh_cache =
    record {
      kept = None;
      decoded = off;
    }

-- ---- The cached read

-- the kept words are these
unfoldable pub keeps : Option (List ℕ) → List ℕ → Bool
keeps None ws = false
keeps (Some kept) ws = same_words kept ws

-- The cache is not empty, and its words are the file's: self.read == Some(read).
unfoldable pub current : List ℕ → Cache → Bool
current f c = keeps c.kept (registers_read f)

-- "The cached read keeps the 139 words of `registers_read` and their lighting"
unfoldable pub read_anew : List ℕ → Cache
read_anew f = record { kept = Some (registers_read f); decoded = read f }

-- "it decodes again exactly when those words differ or the cache is empty": the cache after a read that is not refused
unfoldable pub refreshed : List ℕ → Cache → Cache
refreshed f c = if current f c then c else read_anew f

-- What a cached read gives, whatever kind of thing a cache is: 0 or the refusal's number, and the cache afterwards, whose lighting is the read one.
pub record Cached (C : Type 0) : Type 0 where
  pub number : ℕ
  pub cache : C

abbrev pub cached : {C : Type 0} → ℕ → C → Cached C
cached k c = record { number = k; cache = c }

-- refused, nothing changes
unfoldable pub cached_read_if : ℕ → List ℕ → Cache → Cached Cache
cached_read_if zero f c = cached 0 (refreshed f c)
cached_read_if (suc k) f c = cached (suc k) c

-- "Read and cached read: 1." File, cache.
abbrev pub cached_read : List ℕ → Cache → Cached Cache
cached_read f c = cached_read_if (file_refusal (length f)) f c

-- ---- Both reads across the C boundary, where a lighting is its block: the reading, and then its pack

-- 0 where it is lit, 100 where it is off
unfoldable pub read_number : Option Lighting → ℕ
read_number None = 100
read_number (Some l) = 0

-- all zero where it is off; a file's reading is never refused with 7 (DecodedLaws: decoded_packable)
unfoldable pub read_packed_if : ℕ → List ℕ → List ℕ → Packing
read_packed_if zero f b = packing (read_number (read f)) (packed_reading (read f))
read_packed_if (suc k) f b = packing (suc k) b

-- "1" of the read, then "6" of pack. File, block.
abbrev pub read_packed : List ℕ → List ℕ → Packing
read_packed f b = read_packed_if (file_refusal (length f) else block_refusal (length b)) f b

-- not "7 a lighting, made by the caller": it is off, or `pack` accepts it
unfoldable pub packable : Option Lighting → Bool
packable None = true
packable (Some l) = accepted l

-- What a cached read and its pack give: the number, the cache and the block afterwards.
pub record CachedBlock (C : Type 0) : Type 0 where
  pub number : ℕ
  pub cache : C
  pub block : List ℕ

abbrev pub cached_block : {C : Type 0} → ℕ → C → List ℕ → CachedBlock C
cached_block k c b = record { number = k; cache = c; block = b }

-- n is the cache that the read left; refused, nothing changes: c is the cache before, b the block
unfoldable pub packs_cached : Cache → Cache → List ℕ → CachedBlock Cache
packs_cached n c b =
    if packable n.decoded then cached_block (read_number n.decoded) n (packed_reading n.decoded)
    else cached_block 7 c b

unfoldable pub cached_read_packed_if : ℕ → List ℕ → Cache → List ℕ → CachedBlock Cache
cached_read_packed_if zero f c b = packs_cached (refreshed f c) c b
cached_read_packed_if (suc k) f c b = cached_block (suc k) c b

-- "1" of the cached read, "6" of pack, then its 7. File, cache, block.
abbrev pub cached_read_packed : List ℕ → Cache → List ℕ → CachedBlock Cache
cached_read_packed f c b = cached_read_packed_if (file_refusal (length f) else block_refusal (length b)) f c b

-- ---- The hand-over

-- What a hand-over gives, whatever kind of thing a cache is: 0 or the refusal's number, the unit's cache, and the copy's block, tables and
-- generation afterwards.
pub record Handed (C : Type 0) : Type 0 where
  pub number : ℕ
  pub cache : C
  pub block : List ℕ
  pub tables : List ℕ
  pub generation : ℕ

abbrev pub handed : {C : Type 0} → ℕ → C → List ℕ → List ℕ → ℕ → Handed C
handed k c b t g = record { number = k; cache = c; block = b; tables = t; generation = g }

-- "Hand-over: 1; 2 unit's tables, then copy's; 6": by the number of words of the four slices
abbrev pub hand_over_refusal : ℕ → ℕ → ℕ → ℕ → ℕ
hand_over_refusal file tables copyTables block =
    file_refusal file else tables_refusal tables else tables_refusal copyTables else block_refusal block

-- "packs it (off: all zero), and takes tables and generation exactly when the generations differ": n is the cache that the read left, t and g are
-- the unit's tables and generation, ct and cg the copy's
unfoldable pub taken : Cache → List ℕ → ℕ → List ℕ → ℕ → Handed Cache
taken n t g ct cg =
    if eqb g cg then handed 0 n (packed_reading n.decoded) ct cg
    else handed 0 n (packed_reading n.decoded) t g

-- past the refusals by length, "7 as for pack, from a cache made by the caller"; refused, nothing changes: c is the cache before, b the copy's block
unfoldable pub hand_over_read : Cache → List ℕ → ℕ → Cache → List ℕ → List ℕ → ℕ → Handed Cache
hand_over_read n t g c b ct cg = if packable n.decoded then taken n t g ct cg else handed 7 c b ct cg

-- "Hand-over makes a cached read"
unfoldable pub hand_over_if : ℕ → List ℕ → List ℕ → ℕ → Cache → List ℕ → List ℕ → ℕ → Handed Cache
hand_over_if zero f t g c b ct cg = hand_over_read (refreshed f c) t g c b ct cg
hand_over_if (suc k) f t g c b ct cg = handed (suc k) c b ct cg

-- The unit's file, tables, generation and cache; the copy's block, tables and generation.
abbrev pub hand_over : List ℕ → List ℕ → ℕ → Cache → List ℕ → List ℕ → ℕ → Handed Cache
hand_over f t g c b ct cg =
    hand_over_if (hand_over_refusal (length f) (length t) (length ct) (length b)) f t g c b ct cg
