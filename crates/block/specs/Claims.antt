-- The laws of the block: reading what was packed, packing what was read, which lightings are packed, and which block is off. Statements only.
use Rattle.std.specs.Prelude.{ℕ, ◌<◌, ◌≤◌, ◌^◌, ◌≡◌, List, true, ◌||◌, length, replicate}
use Rattle.lighting.specs.declared.Lighting.{Lighting}
use Rattle.lighting.specs.Lighting.{blank_light, off, on, slot_of, light_at, in_range}
use Rattle.lighting.specs.Claims.{LightingFits}
use Rattle.block.specs.Block.{words, packed, packed_reading, all_zero, well_formed, block_lighting, block_reading, accepted, block_answer, block_read}
use Rattle.block.specs.Steps.{acceptable}

-- The lights beyond the count are blank.
abbrev pub BlankBeyond : Lighting → Type 0
BlankBeyond l = (s : ℕ) → s < 8 → l.light_count ≤ s → light_at l (slot_of s) ≡ blank_light

-- Reading a packed lighting gives the lighting.
abbrev pub PackedReads : Type 0
PackedReads = (l : Lighting) → length l.lights ≡ 8 → LightingFits l → in_range l ≡ true → BlankBeyond l → block_reading (words (packed l)) ≡ on l

-- What words of 32 bits say.
abbrev pub WordsHeld : (ℕ → ℕ) → Type 0
WordsHeld w = (i : ℕ) → w i < 2 ^ 32

-- "Packing a well-formed block's reading gives that block": all zero for off.
abbrev pub ReadPacks : Type 0
ReadPacks = (b : List ℕ) → length b ≡ 328 → WordsHeld (words b) → (all_zero (words b) || well_formed (words b)) ≡ true → packed_reading (block_reading (words b)) ≡ b

-- And `pack` accepts it.
abbrev pub ReadAccepted : Type 0
ReadAccepted = (b : List ℕ) → length b ≡ 328 → WordsHeld (words b) → well_formed (words b) ≡ true → accepted (block_lighting (words b)) ≡ true

-- The code's test of a lighting is document 01's sentence about its words.
abbrev pub AcceptedIs : Type 0
AcceptedIs = (l : Lighting) → LightingFits l → accepted l ≡ acceptable l

-- A block is all zero exactly when it reads as off.
abbrev pub ZeroReadsOff : Type 0
ZeroReadsOff = block_read (replicate 328 0) ≡ block_answer 0 off

abbrev pub OffIsZero : Type 0
OffIsZero = (b : List ℕ) → length b ≡ 328 → block_read b ≡ block_answer 0 off → b ≡ replicate 328 0
