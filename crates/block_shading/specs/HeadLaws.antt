-- Shading asks the head only for what it has in common with the whole lighting, so each part of shading is the same of both. The light of a lit slot is
-- what its 36 words read as. Assumes nothing.
use Rattle.std.specs.Prelude.{ℕ, ◌<◌, ◌≤◌, ◌≡◌, true, List, get_or, Float}
use Rattle.std.proofs.Common.{arith}
use Rattle.std.proofs.Math.Path.{refl, sym}
use borrow.Author.Tests.{lt-ltb, ltb-true, leb-true}
use Rattle.lighting.specs.Lighting.{no_light, bump_unit, shadow_unit, slot_of, light_at}
use Rattle.block.specs.Block.{from, slot_at, well_formed, block_light, block_lights, block_lighting}
use Rattle.block.specs.FormedLaws.{formed_parts}
use Rattle.block.proofs.ReadLaws.{lit_light as lit-of-block}
use Rattle.block.specs.WordLaws.{bump_unit_small, shadow_unit_small}
use Rattle.shading.specs.Steps.{lighting_lookups, lighting_settings, lighting_frame, lighting_shadow, finished_of, sums_by, shade_by, shade_of}
use Rattle.shading.proofs.ShadeLaws.{shade_law}
use Rattle.shading.specs.Shade.{shade}
use Rattle.block_shading.specs.Steps.{head_of}

module _ (w : ℕ → ℕ) where
  -- shading from the head, with the lights read from their slots
  pub head_shades : (tables : List ℕ) (quaternion view : List Float) (texels : List (List Float))
      → finished_of (head_of w)
      (sums_by tables (lighting_lookups (head_of w)) (lighting_frame (head_of w) quaternion view texels) (lighting_settings (head_of w) (lighting_shadow (head_of w) texels)) (block_lights w) (head_of w).light_count (head_of w).light_count)
      (lighting_shadow (head_of w) texels)
      ≡ shade (block_lighting w) tables quaternion view texels
  unfolding head_of block_lighting lighting_lookups lighting_settings lighting_frame lighting_shadow finished_of shade_by shade_of
  head_shades tables quaternion view texels = sym (shade_law (block_lighting w) tables quaternion view texels)

  -- the light of a lit slot
  pub lit_light : (s : ℕ) → s < w 1 → w 1 ≤ 8 → get_or (block_lights w) s no_light ≡ block_light (from w (slot_at (slot_of s)))
  unfolding light_at block_lighting
  lit_light s h few = lit-of-block w s (omega arith) (lt-ltb s (w 1) h)

  -- at most eight are lit
  pub few : well_formed w ≡ true → w 1 ≤ 8
  few f = leb-true (w 1) 8 (formed_parts w f).shape.few

  -- its number is one of eight
  pub lit_number : well_formed w ≡ true → (s : ℕ) → s < w 1 → (block_light (from w (slot_at (slot_of s)))).number.0 < 8
  unfolding block_light
  lit_number f s h = ltb-true (from w (slot_at (slot_of s)) 33) 8 ((formed_parts w f).shape.number s h)

  -- both texture units are 0 to 3
  pub head_bump : well_formed w ≡ true → bump_unit (head_of w).bump ≤ 3
  unfolding head_of
  head_bump f = bump_unit_small (w 2) (formed_parts w f).shape.bump

  pub head_shadow : well_formed w ≡ true → shadow_unit (head_of w).shadow ≤ 3
  unfolding head_of
  head_shadow f = shadow_unit_small (w 3) (formed_parts w f).shape.shadow

  pub head_count : (head_of w).light_count ≡ w 1
  unfolding head_of
  head_count = refl
