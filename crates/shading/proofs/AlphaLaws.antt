-- "Primary (secondary) alpha is 1 whenever its fresnel flag is clear": no slot sets it, and no shadow is taken on it. So its k is 255. Assumes nothing.
use Rattle.std.specs.Prelude.{◌≡◌, ℕ, zero, suc, false, List, slice_index, Float}
use Rattle.std.proofs.Math.Path.{refl}
use Rattle.std.proofs.Common.{ap, ◌∙◌}
use Rattle.std.proofs.Math.Bool.{and-false}
use Rattle.std.specs.Float.Ieee.{of_bits, lt, mul, to_unsigned}
use Rattle.binary32.specs.Binary32.{float1, clamp_of, quantized_of}
use Rattle.vectors.specs.Vectors.{at}
use Rattle.lighting.specs.declared.Light.{Light}
use Rattle.lighting.specs.declared.Lighting.{Lighting}
use Rattle.surface.specs.declared.Frame.{Frame}
use Rattle.light_steps.specs.declared.types.LightingLookups.{LightingLookups}
use Rattle.light_steps.specs.declared.types.Settings.{Settings}
use Rattle.light_steps.specs.Steps.{added_of, summed_of, with_values_by, with_values, step_of}
use Rattle.shading.specs.Shade.{shade}
use Rattle.shading.proofs.ShadeLaws.{shade_law}
use Rattle.shading.specs.Steps.{shadowed_alpha, finish_of, lighting_settings, finished_of, sums_by, shade_by, shade_of}

one : quantized_of float1 ≡ 255
unfolding quantized_of clamp_of lt of_bits mul to_unsigned
one = refl

module _ (tables : List ℕ) (lookups : LightingLookups) (frame : Frame) (settings : Settings) (lights : List Light) (count : ℕ) where
  diffuse_alpha : settings.fresnel_primary ≡ false → (k : ℕ) → at (sums_by tables lookups frame settings lights count k).diffuse 3 ≡ float1
  unfolding sums_by step_of with_values with_values_by summed_of added_of
  diffuse_alpha h zero = refl
  diffuse_alpha h (suc k) = simp (h, and-false) (diffuse_alpha h k)

  specular_alpha : settings.fresnel_secondary ≡ false → (k : ℕ) → at (sums_by tables lookups frame settings lights count k).specular 3 ≡ float1
  unfolding sums_by step_of with_values with_values_by summed_of added_of
  specular_alpha h zero = refl
  specular_alpha h (suc k) = simp (h, and-false) (specular_alpha h k)

primary_clear : (l : Lighting) (shadow : List Float) → l.fresnel_primary ≡ false → (lighting_settings l shadow).fresnel_primary ≡ false
unfolding lighting_settings
primary_clear l shadow h = h

secondary_clear : (l : Lighting) (shadow : List Float) → l.fresnel_secondary ≡ false → (lighting_settings l shadow).fresnel_secondary ≡ false
unfolding lighting_settings
secondary_clear l shadow h = h

module _ (l : Lighting) (tables : List ℕ) (quaternion view : List Float) (textures : List (List Float)) where
  primary_steps : l.fresnel_primary ≡ false → slice_index (shade_of l tables quaternion view textures) 3 ≡ 255
  unfolding shade_of shade_by finished_of finish_of shadowed_alpha
  primary_steps h = simp (h, and-false) (ap quantized_of (diffuse_alpha tables _ _ _ _ _ (primary_clear l _ h) _) ∙ one)

  secondary_steps : l.fresnel_secondary ≡ false → slice_index (shade_of l tables quaternion view textures) 7 ≡ 255
  unfolding shade_of shade_by finished_of finish_of shadowed_alpha
  secondary_steps h = simp (h, and-false) (ap quantized_of (specular_alpha tables _ _ _ _ _ (secondary_clear l _ h) _) ∙ one)

  pub primary_alpha : l.fresnel_primary ≡ false → slice_index (shade l tables quaternion view textures) 3 ≡ 255
  primary_alpha h = ap (λ (k : List ℕ). slice_index k 3) (shade_law l tables quaternion view textures) ∙ primary_steps h

  pub secondary_alpha : l.fresnel_secondary ≡ false → slice_index (shade l tables quaternion view textures) 7 ≡ 255
  secondary_alpha h = ap (λ (k : List ℕ). slice_index k 7) (shade_law l tables quaternion view textures) ∙ secondary_steps h
