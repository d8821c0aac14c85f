-- Which cache lent words mean, and that a call on the words is the call on that cache. Statements only.
use Rattle.std.specs.Prelude.{ℕ, ◌<◌, ◌≡◌, List, length, eqb, Option, None, Some, if◌then◌else◌}
use Rattle.lighting.specs.Lighting.{blank_lighting, on}
use Rattle.lighting.specs.declared.Lighting.{Lighting}
use Rattle.block.specs.Block.{words, block_reading}
use Rattle.unit.specs.declared.Cache.{Cache}
use Rattle.unit.specs.Unit.{Cached, cached, cached_read, CachedBlock, cached_block, cached_read_packed, Handed, handed, hand_over}
use Rattle.unit.specs.CacheWords.{cache_count, cache_flag, cache_kept, cache_block, formed, cached_read_words, cached_read_packed_words, hand_over_words}

-- the lighting of a kept block: what it reads as. One that is neither off nor well formed means a lighting that `pack` refuses with 7, as here one
-- with no light: its "count outside 1–8".
unfoldable pub reading_of : List ℕ → Option Lighting
reading_of b = if formed b then block_reading (words b) else on blank_lighting

-- the cache that words mean
unfoldable pub cache_of : List ℕ → Cache
cache_of c = record { kept = if eqb (cache_flag c) 0 then None else Some (cache_kept c); decoded = reading_of (cache_block c) }

-- what a call gives, with the cache that its words mean
abbrev pub cached_as : {C D : Type 0} → (D → C) → Cached D → Cached C
cached_as means r = cached r.number (means r.cache)

abbrev pub cached_block_as : {C D : Type 0} → (D → C) → CachedBlock D → CachedBlock C
cached_block_as means r = cached_block r.number (means r.cache) r.block

abbrev pub handed_as : {C D : Type 0} → (D → C) → Handed D → Handed C
handed_as means r = handed r.number (means r.cache) r.block r.tables r.generation

-- What a caller can lend: words of the right number, those of the block being of 32 bits.
pub record Lendable (c : List ℕ) : Type 0 where
  pub long : length c ≡ cache_count
  pub held : (i : ℕ) → words (cache_block c) i < 0x100000000

-- A hand-over on lent words is document 01's on the cache that they mean.
abbrev pub HandsOverAsMeant : Type 0
HandsOverAsMeant =
    (f t : List ℕ) (g : ℕ) (c b ct : List ℕ) (cg : ℕ) → Lendable c → handed_as cache_of (hand_over_words f t g c b ct cg) ≡ hand_over f t g (cache_of c) b ct cg

-- So is a cached read with its pack.
abbrev pub ReadsPackedAsMeant : Type 0
ReadsPackedAsMeant =
    (f c b : List ℕ) → Lendable c → cached_block_as cache_of (cached_read_packed_words f c b) ≡ cached_read_packed f (cache_of c) b

-- So is a cached read by itself, whatever the block holds: it has no 7.
abbrev pub ReadsAsMeant : Type 0
ReadsAsMeant =
    (f c : List ℕ) → length c ≡ cache_count → cached_as cache_of (cached_read_words f c) ≡ cached_read f (cache_of c)
