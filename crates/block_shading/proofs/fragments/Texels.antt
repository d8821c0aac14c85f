-- The four floats from a unit's first word on are that unit's of the four texels, unit by unit. Assumes nothing.
use Prim.Native.Nat.{ℕ, zero, suc, ◌+◌, ◌*◌, ◌≤◌}
use native.Mathlib.Omega.{arith}
use mathlib.Core.Path.{◌≡◌, refl}
use mathlib.Core.List.{List}
use Rattle.block_shading.specs.BlockShading.{four_at, texels_of}
use Rattle.shading.specs.Steps.{texel_of}

pub texel : (q : List ℕ) (unit : ℕ) → unit ≤ 3 → four_at q (7 + 4 * unit) ≡ texel_of (texels_of q) unit
unfolding texels_of
texel q zero h = refl
texel q (suc zero) h = refl
texel q (suc (suc zero)) h = refl
texel q (suc (suc (suc zero))) h = refl
texel q (suc (suc (suc (suc n)))) h = absurd (omega arith)
