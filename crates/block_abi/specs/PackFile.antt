-- For tests alone: a register file decoded and packed in one call, 1 for a short file, 100 where the lighting is off, else as packing has it. Definitions only.
use Rattle.std.specs.Prelude.{ℕ, zero, suc, List, length, Option, None, Some}
use Rattle.refusals.specs.Refusals.{file_refusal}
use Rattle.lighting.specs.declared.Lighting.{Lighting}
use Rattle.decoding.specs.Read.{read}
use Rattle.block.specs.Block.{Packing, packing, packs}

unfoldable pub pack_reading : Option Lighting → List ℕ → Packing
pack_reading None b = packing 100 b
pack_reading (Some l) b = packs l b

unfoldable pub pack_file_if : ℕ → List ℕ → List ℕ → Packing
pack_file_if zero f b = pack_reading (read f) b
pack_file_if (suc k) f b = packing (suc k) b

-- file; block
abbrev pub pack_file : List ℕ → List ℕ → Packing
pack_file f b = pack_file_if (file_refusal (length f)) f b
