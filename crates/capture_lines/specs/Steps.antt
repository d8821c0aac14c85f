-- What the code computes step by step; nobody has to trust it: `print_fragments`' contract ties it to the law, `Lines`. A block that is checked once answers every fragment
-- as a lighting, or by one number. Definitions only.
use Rattle.std.specs.Prelude.{ℕ, List, Option, Some, None, Result, Ok, Err}
use Rattle.refusals.specs.Refusals.{number_of}
use Rattle.refusals.specs.declared.Refusal.{Refusal}
use Rattle.lighting.specs.declared.Lighting.{Lighting}
use Rattle.shading.specs.Shade.{Shaded, shaded}
use Rattle.block_shading.specs.BlockShading.{eight_of, block_shading}
use Rattle.capture_lines.specs.Lines.{no_answer}

-- a block that reads as a lighting
abbrev pub lit_shades : Lighting → List ℕ → List ℕ → Shaded
lit_shades lighting tables fragment = shaded 0 (eight_of lighting tables fragment)

-- a block that is off, or refused
abbrev pub unlit_shades : ℕ → List ℕ → Shaded
unlit_shades number fragment = shaded number no_answer

-- what block shading answers of a fragment, from a block and tables: 0 and the eight k, or 100, or a refusal's number
abbrev pub block_shades : List ℕ → List ℕ → List ℕ → Shaded
block_shades block tables fragment = block_shading block tables fragment no_answer

-- what each fragment is shaded as by what was found of a block and tables: a refusal, or off, or what colours
abbrev pub found_shades : {A : Type 0} → (A → List ℕ → Shaded) → Result (Option A) Refusal → List ℕ → Shaded
found_shades shades (Ok (Some lit)) fragment = shades lit fragment
found_shades shades (Ok None) fragment = unlit_shades 100 fragment
found_shades shades (Err k) fragment = unlit_shades (number_of k) fragment
