-- What the code computes of block shading, step by step; nobody has to trust it: HeadLaws and FragmentsLaws tie it to Shade and BlockShading. Definitions only.
use Rattle.std.specs.Prelude.{ℕ, List, map, replicate, flat_map}
use Rattle.lighting.specs.Lighting.{blank_light}
use Rattle.lighting.specs.declared.Lighting.{Lighting}
use Rattle.block.specs.Block.{block_lighting_with}
use Rattle.block_shading.specs.BlockShading.{eight_of}

-- the lighting of a block but its lights, which are read slot by slot where they are needed
unfoldable pub head_of : (ℕ → ℕ) → Lighting
head_of w = block_lighting_with w (replicate 8 blank_light)

-- the eight k of each of some fragments, one after another; a fragment's words are as the caller has them
abbrev pub eights : Lighting → List ℕ → {A : Type 0} → (A → ℕ) → List (List A) → List ℕ
eights l tables value fragments = flat_map (λ fragment. eight_of l tables (map value fragment)) fragments
