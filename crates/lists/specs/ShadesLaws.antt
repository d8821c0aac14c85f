-- Block shading of the block of a register file's lighting answers as the definition does from the registers: the block is not refused, and reads
-- back as the lighting that was decoded. Assumes nothing.
use Rattle.std.specs.Prelude.{ℕ, ◌≡◌, refl, List, true, length, Option}
use Rattle.refusals.specs.Refusals.{block_refusal, tables_refusal, fragment_refusal, answer_refusal}
use Rattle.lighting.specs.declared.Lighting.{Lighting}
use Rattle.decoding.specs.Read.{read}
use Rattle.block.specs.Block.{words, packed_reading, words_refusal}
use Rattle.unit.specs.Unit.{packable}
use Rattle.unit.specs.DecodedLaws.{decoded_packable, decoded_reads, packed_formed, packed_length}
use Rattle.block_shading.specs.BlockShading.{shaded_by, block_shading_refusal, block_shading_if, block_shading}
use Rattle.lists.specs.Claim.{shade_from}

-- the block of a lighting that is packed, or off, is not refused
packed_passes : (d : Option Lighting) → packable d ≡ true → words_refusal (words (packed_reading d)) ≡ 0
unfolding words_refusal
packed_passes d h = rw (packed_formed d h) refl

passes : (r e q a : List ℕ) → length e ≡ 12288 → length q ≡ 23 → length a ≡ 8 → block_shading_refusal (packed_reading (read r)) e q a ≡ 0
unfolding block_shading_refusal block_refusal tables_refusal fragment_refusal answer_refusal
passes r e q a he hq ha =
    rw (packed_length (read r), he, hq, ha, packed_passes (read r) (decoded_packable r)) refl

pub block_shades_lem : (r e q a : List ℕ) → length e ≡ 12288 → length q ≡ 23 → length a ≡ 8 → block_shading (packed_reading (read r)) e q a ≡ shade_from r e q a
unfolding block_shading block_shading_if shaded_by shade_from
block_shades_lem r e q a he hq ha = rw (passes r e q a he hq ha, decoded_reads r) refl
