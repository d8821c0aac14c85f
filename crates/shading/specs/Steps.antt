-- What the code computes of a fragment's shading, step by step; nobody has to trust it: `shade_law` (ShadeLaws) ties it to Shade. Definitions only.
use Rattle.std.specs.Prelude.{ℕ, zero, suc, ◌<◌, Bool, cond, ◌&&◌, List, [], ◌∷◌, get_or, ◌==◌, slice_index_or, Float}
use Rattle.binary32.specs.Binary32.{float0, float1, quantized_of}
use Rattle.vectors.specs.Vectors.{at, ◌⊕◌, ◌⊗◌}
use Rattle.lighting.specs.Lighting.{bump_unit, shadow_unit, no_light}
use Rattle.lighting.specs.declared.Light.{Light}
use Rattle.lighting.specs.declared.Lighting.{Lighting}
use Rattle.surface.specs.Steps.{shadow_texel, frame_of}
use Rattle.surface.specs.declared.Frame.{Frame}
use Rattle.light_steps.specs.declared.types.LightingLookups.{LightingLookups}
use Rattle.light_steps.specs.declared.types.Settings.{Settings}
use Rattle.light_steps.specs.declared.types.Sums.{Sums}
use Rattle.light_steps.specs.Steps.{step_of}
use Rattle.shading.specs.Shade.{is_some_and}

-- ---- what shading takes of a lighting

unfoldable pub lighting_lookups : Lighting → LightingLookups
lighting_lookups l =
    record {
      config = l.config;
      needs_half = l.needs_half;
      tables =
          record {
            distribution0 = l.distribution0;
            distribution1 = l.distribution1;
            fresnel = l.fresnel;
            reflect_red = l.reflect_red;
            reflect_green = l.reflect_green;
            reflect_blue = l.reflect_blue;
            spotlight = l.spotlight;
          };
    }

unfoldable pub lighting_settings : Lighting → List Float → Settings
lighting_settings l shadow =
    record {
      clamp_highlights = l.clamp_highlights;
      shadow_primary = is_some_and l.shadow (λ s. s.primary);
      shadow_secondary = is_some_and l.shadow (λ s. s.secondary);
      shadow = shadow;
      fresnel_primary = l.fresnel_primary;
      fresnel_secondary = l.fresnel_secondary;
    }

abbrev pub texel_of : List (List Float) → ℕ → List Float
texel_of texels unit = slice_index_or texels unit []

unfoldable pub lighting_frame : Lighting → List Float → List Float → List (List Float) → Frame
lighting_frame l quaternion view texels =
    frame_of l.bump (texel_of texels (bump_unit l.bump)) l.config l.needs_view quaternion view

unfoldable pub lighting_shadow : Lighting → List (List Float) → List Float
lighting_shadow l texels = shadow_texel l.shadow (texel_of texels (shadow_unit l.shadow))

-- ---- the sums of the lights

abbrev pub start_sums : Sums
start_sums =
    record {
      diffuse = float0 ∷ float0 ∷ float0 ∷ float1 ∷ [];
      specular = float0 ∷ float0 ∷ float0 ∷ float1 ∷ [];
    }

-- the running sums after the first k slots of `count` that are lit
unfoldable pub sums_by : List ℕ → LightingLookups → Frame → Settings → List Light → ℕ → ℕ → Sums
sums_by tables lookups frame settings lights count zero = start_sums
sums_by tables lookups frame settings lights count (suc k) =
    step_of tables lookups frame settings (suc k == count) (slice_index_or lights k no_light)
    (sums_by tables lookups frame settings lights count k)

abbrev pub Numbered : List Light → ℕ → Type 0
Numbered lights count = (k : ℕ) → k < count → (get_or lights k no_light).number.0 < 8

-- ---- how the sums end as eight channels

unfoldable pub shadowed_alpha : Bool → Float → Float → Float
shadowed_alpha shadowed alpha shadow = cond shadowed (alpha ⊗ shadow) alpha

-- shadow times alpha, where fresnel set it; then the global ambient colour; then each channel quantised, in the printed order
unfoldable pub finish_of : Sums → Bool → Bool → Bool → List Float → List Float → List ℕ
finish_of sums alpha primary secondary shadow ambient =
    quantized_of (at sums.diffuse 0 ⊕ at ambient 0) ∷
    quantized_of (at sums.diffuse 1 ⊕ at ambient 1) ∷
    quantized_of (at sums.diffuse 2 ⊕ at ambient 2) ∷
    quantized_of (shadowed_alpha (alpha && primary) (at sums.diffuse 3) (at shadow 3)) ∷
    quantized_of (at sums.specular 0) ∷
    quantized_of (at sums.specular 1) ∷
    quantized_of (at sums.specular 2) ∷
    quantized_of (shadowed_alpha (alpha && secondary) (at sums.specular 3) (at shadow 3)) ∷ []

-- the channels from the sums
unfoldable pub finished_of : Lighting → Sums → List Float → List ℕ
finished_of l sums shadow =
    finish_of sums (is_some_and l.shadow (λ s. s.alpha)) l.fresnel_primary l.fresnel_secondary shadow l.global_ambient

-- ---- the whole

unfoldable pub shade_by : List ℕ → Lighting → Frame → List Float → List ℕ
shade_by tables l frame shadow =
    finished_of l
    (sums_by tables (lighting_lookups l) frame (lighting_settings l shadow) l.lights l.light_count l.light_count)
    shadow

-- the eight k: the primary colour's red, green, blue and alpha, then the secondary's
unfoldable pub shade_of : Lighting → List ℕ → List Float → List Float → List (List Float) → List ℕ
shade_of l tables quaternion view texels = shade_by tables l (lighting_frame l quaternion view texels) (lighting_shadow l texels)
