-- For tests alone: calls on the structs, composed so that words go in and words come out. Definitions only.
use Rattle.std.specs.Prelude.{ℕ, zero, suc, List, length, Option, None, Some, Result}
use Rattle.refusals.specs.Refusals.{fragment_refusal}
use Rattle.refusals.specs.declared.Refusal.{Refusal}
use Rattle.lighting.specs.declared.Lighting.{Lighting}
use Rattle.decoding.specs.Read.{file_read, file_read_of}
use Rattle.block.specs.Block.{Packing, packing, packs, block_read}
use Rattle.unit.specs.declared.Cache.{Cache}
use Rattle.unit.specs.Unit.{Cached, fresh_cache, cached_read}
use Rattle.shading.specs.Shade.{Shaded, shaded, shades}
use Rattle.block_shading.specs.BlockShading.{quaternion_of, view_of, texels_of}

-- ---- reading, then shading

-- what `shade` gives of a fragment's words by a reading: 100 where it is off
unfoldable pub shades_reading : Option Lighting → List ℕ → List ℕ → List ℕ → Shaded
shades_reading None t q a = shaded 100 a
shades_reading (Some l) t q a = shades l t (quaternion_of q) (view_of q) (texels_of q) a

-- by the number of the read
unfoldable pub shades_if : ℕ → Option Lighting → List ℕ → List ℕ → List ℕ → Shaded
shades_if zero d t q a = shades_reading d t q a
shades_if (suc k) d t q a = shaded (suc k) a

-- by the number of the fragment's words, 9 before all else
unfoldable pub shades_of : ℕ → ℕ → Option Lighting → List ℕ → List ℕ → List ℕ → Shaded
shades_of zero k d t q a = shades_if k d t q a
shades_of (suc n) k d t q a = shaded (suc n) a

-- by what a read answered: tables, fragment, answer
abbrev pub shades_read : Result (Option Lighting) Refusal → List ℕ → List ℕ → List ℕ → Shaded
shades_read r t q a = shades_of (fragment_refusal (length q)) (file_read_of r).number (file_read_of r).lighting t q a

-- `read` of a file, then `shade`: file, tables, fragment, answer
abbrev pub shade_file : List ℕ → List ℕ → List ℕ → List ℕ → Shaded
shade_file f t q a = shades_of (fragment_refusal (length q)) (file_read f).number (file_read f).lighting t q a

-- `read_block` of a block, then `shade`: block, tables, fragment, answer
abbrev pub shade_reading : List ℕ → List ℕ → List ℕ → List ℕ → Shaded
shade_reading b t q a = shades_of (fragment_refusal (length q)) (block_read b).number (block_read b).reading t q a

-- ---- two cached reads from an empty cache, the second packed

unfoldable pub packs_if : ℕ → Option Lighting → List ℕ → Packing
packs_if zero None b = packing 100 b
packs_if zero (Some l) b = packs l b
packs_if (suc k) d b = packing (suc k) b

abbrev pub second : List ℕ → List ℕ → Cached Cache
second f o = cached_read o (cached_read f fresh_cache).cache

-- file, other, block
abbrev pub cached_reads : List ℕ → List ℕ → List ℕ → Packing
cached_reads f o b = packs_if (second f o).number (second f o).cache.decoded b
