-- The law's `shade` is what the code's steps compute. By unfolding, and by cases on what the law and the steps match on. Assumes nothing.
use Rattle.std.specs.Prelude.{◌≡◌, ℕ, zero, suc, ◌+◌, Bool, true, false, cond, ◌&&◌, ◌||◌, List, [], ◌∷◌, ◌==◌, nat_eq, slice_index_or, Float, Option, None, Some, is_some}
use Rattle.std.proofs.Math.Path.{refl, ap}
use Rattle.std.proofs.Common.{◌∙◌}
use Rattle.std.proofs.Math.Numerals.{add-one}
use Rattle.binary32.specs.Binary32.{float0, float1}
use Rattle.vectors.specs.Vectors.{at, dot_of, plus_of, times_of}
use Rattle.vectors.specs.Steps.{minus_of}
use Rattle.lighting.specs.declared.Slot.{Slot}
use Rattle.lighting.specs.declared.Light.{Light}
use Rattle.lighting.specs.declared.LightNumber.{LightNumber}
use Rattle.lighting.specs.declared.Lighting.{Lighting}
use Rattle.lighting.specs.declared.Lookup.{Lookup}
use Rattle.lighting.specs.declared.Bump.{Bump}
use Rattle.lighting.specs.declared.Bump.TheVariants.{Flat, Normal, Tangent}
use Rattle.lighting.specs.declared.Distance.{Distance}
use Rattle.lighting.specs.declared.Shadow.{Shadow}
use Rattle.lighting.specs.Lighting.{slot_of, bump_unit, shadow_unit, light_at, table_distribution0, table_distribution1, table_fresnel, table_reflect_blue, table_reflect_green, table_reflect_red, table_spotlight}
use Rattle.surface.specs.declared.Frame.{Frame}
use Rattle.light_steps.specs.declared.types.Sums.{Sums}
use Rattle.light_steps.specs.declared.types.Values.{Values}
use Rattle.surface.specs.Steps.{inverted, shadow_texel, perturbed, rebuilt_z, rebuilt, surface_normal, surface_tangent, quaternion_norm, quaternion_over, unit_quaternion, tangent_of, unit_if, frame_of, light_vector, half_of, directions_of, offset_of, offset_norm}
use Rattle.shading.specs.Steps.{texel_of, lighting_lookups, lighting_settings, lighting_frame, lighting_shadow, finished_of, shadowed_alpha, finish_of, sums_by, shade_by, shade_of}
use Rattle.light_steps.specs.Steps.{facing_of, highlights_of, factor_by, factor_of, place_of, input_of, distance_place, along_tangent, inputs_by, inputs_of, diffuse_of, times_if, specular0_of, reflected_of, specular1_of, specular_by, specular_of, shadow_for, added_of, summed_of, with_values, with_values_by, step_of, lookup_value, value_if, distance_by, spot_value, fresnel_value, distance_value, values_by, values_of}
use Rattle.shading.specs.Shade.{map_or, shadow_of, bumped, surface_normal_of, surface_tangent_of, lookup_at, distance_of, sided, value_of, results_of, with_light, with_lights, shade}

-- ---- before the lights

shadow_law : (s : Option Shadow) (textures : List (List Float)) → shadow_of s textures ≡ shadow_texel s (texel_of textures (shadow_unit s))
unfolding shadow_of shadow_texel inverted shadow_unit
shadow_law None textures = refl
shadow_law (Some s) textures = refl

normal_law : (b : Bump) (textures : List (List Float)) → surface_normal_of b textures ≡ surface_normal b (texel_of textures (bump_unit b))
unfolding surface_normal_of bumped surface_normal rebuilt rebuilt_z perturbed bump_unit
normal_law Flat textures = refl
normal_law (Normal unit rebuild) textures = refl
normal_law (Tangent unit) textures = refl

tangent_law : (b : Bump) (textures : List (List Float)) → surface_tangent_of b textures ≡ surface_tangent b (texel_of textures (bump_unit b))
unfolding surface_tangent_of bumped surface_tangent perturbed bump_unit
tangent_law Flat textures = refl
tangent_law (Normal unit rebuild) textures = refl
tangent_law (Tangent unit) textures = refl

-- ---- the tables

distance_law : (tables : List ℕ) (number : LightNumber) (d : Option Distance) (position view : List Float)
    → distance_of tables number d position view ≡ distance_by tables d number (offset_norm view position)
unfolding distance_of distance_by distance_place lookup_at offset_norm offset_of
distance_law tables number None position view = refl
distance_law tables number (Some distance) position view = refl

-- the code's list of inputs has two zeros more, for the inputs 6 and 7
results_law : (a b c d e f : Float) (n : ℕ) → slice_index_or (a ∷ b ∷ c ∷ d ∷ e ∷ f ∷ []) n float0 ≡ slice_index_or (a ∷ b ∷ c ∷ d ∷ e ∷ f ∷ float0 ∷ float0 ∷ []) n float0
results_law a b c d e f zero = refl
results_law a b c d e f (suc zero) = refl
results_law a b c d e f (suc (suc zero)) = refl
results_law a b c d e f (suc (suc (suc zero))) = refl
results_law a b c d e f (suc (suc (suc (suc zero)))) = refl
results_law a b c d e f (suc (suc (suc (suc (suc zero))))) = refl
results_law a b c d e f (suc (suc (suc (suc (suc (suc zero)))))) = refl
results_law a b c d e f (suc (suc (suc (suc (suc (suc (suc zero))))))) = refl
results_law a b c d e f (suc (suc (suc (suc (suc (suc (suc (suc n)))))))) = refl

module _ (tables : List ℕ) (twoSided : Bool) (a b c d e f : Float) where
  value_law : (table : ℕ) (lookup : Lookup)
      → value_of tables twoSided (a ∷ b ∷ c ∷ d ∷ e ∷ f ∷ []) lookup table
      ≡ lookup_value tables table lookup twoSided (a ∷ b ∷ c ∷ d ∷ e ∷ f ∷ float0 ∷ float0 ∷ [])
  unfolding value_of lookup_value lookup_at sided input_of place_of facing_of
  value_law table lookup = rw (results_law a b c d e f lookup.input)

  spot_law : (table : ℕ) (lookup : Lookup) (spotlight : Bool)
      → cond spotlight (value_of tables twoSided (a ∷ b ∷ c ∷ d ∷ e ∷ f ∷ []) lookup table) float1
      ≡ cond spotlight (lookup_value tables table lookup twoSided (a ∷ b ∷ c ∷ d ∷ e ∷ f ∷ float0 ∷ float0 ∷ [])) float1
  spot_law table lookup spotlight = rw (value_law table lookup)

  lookup_law : (table : ℕ) (lookup : Option Lookup) (missing instead : Float) → missing ≡ instead
      → map_or lookup missing (λ l. value_of tables twoSided (a ∷ b ∷ c ∷ d ∷ e ∷ f ∷ []) l table)
      ≡ value_if tables table lookup twoSided (a ∷ b ∷ c ∷ d ∷ e ∷ f ∷ float0 ∷ float0 ∷ []) instead
  unfolding map_or value_if
  lookup_law table None missing instead h = h
  lookup_law table (Some lookup) missing instead h = value_law table lookup

  fresnel_law : (table : ℕ) (last flag : Bool) (lookup : Option Lookup) (alpha : Float)
      → cond (last && flag) (map_or lookup alpha (λ l. value_of tables twoSided (a ∷ b ∷ c ∷ d ∷ e ∷ f ∷ []) l table)) alpha
      ≡ cond ((last && is_some lookup) && flag) (cond last (value_if tables table lookup twoSided (a ∷ b ∷ c ∷ d ∷ e ∷ f ∷ float0 ∷ float0 ∷ []) float1) float1) alpha
  unfolding map_or value_if
  fresnel_law table true true None alpha = refl
  fresnel_law table true true (Some lookup) alpha = value_law table lookup
  fresnel_law table true false None alpha = refl
  fresnel_law table true false (Some lookup) alpha = refl
  fresnel_law table false flag lookup alpha = refl

-- ---- one light

module _ (light : Light) (half : List Float) (facing : Float) where
  -- a light with neither geometric flag reads no factor
  factor0_law : (g h : Bool) (v : List Float) (f : Float) → cond g (times_of v f) v ≡ times_if g v (cond (g || h) f float1)
  unfolding times_if
  factor0_law true h v f = refl
  factor0_law false h v f = refl

  factor1_law : (g h : Bool) (v : List Float) (f : Float) → cond h (times_of v f) v ≡ times_if h v (cond (g || h) f float1)
  unfolding times_if
  factor1_law true true v f = refl
  factor1_law true false v f = refl
  factor1_law false true v f = refl
  factor1_law false false v f = refl

  specular0_law : {x y : Float} → x ≡ y
      → cond light.geometric0 (times_of (times_of light.specular0 x) (factor_by facing (dot_of half half))) (times_of light.specular0 x)
      ≡ specular0_of light y (factor_of light half facing)
  unfolding specular0_of factor_of
  specular0_law {x} {y} h = rw (← h) (factor0_law light.geometric0 light.geometric1 (times_of light.specular0 x) _)

  specular1_law : {v w : Values} → v ≡ w
      → cond light.geometric1 (times_of (reflected_of light.specular1 v) (factor_by facing (dot_of half half))) (reflected_of light.specular1 v)
      ≡ specular1_of light w (factor_of light half facing)
  unfolding specular1_of factor_of
  specular1_law {v} {w} h = rw (← h) (factor1_law light.geometric0 light.geometric1 (reflected_of light.specular1 v) _)

  -- both sums from a light's parts
  assembled : Values → List Float → List Float → Float → Bool → Bool → List Float → Float → Float → Sums → List Float × List Float
  assembled v specular0 specular1 highlights primary secondary shadow diffuseAlpha specularAlpha sums = (
    added_of sums.diffuse (diffuse_of light facing v.distance v.spot) (shadow_for (primary && light.shadowed) shadow) diffuseAlpha,
    added_of sums.specular (specular_by specular0 specular1 highlights v.distance v.spot) (shadow_for (secondary && light.shadowed) shadow) specularAlpha,
  )

  assembled_law : {v w : Values} {s0 t0 s1 t1 : List Float} {p p' q q' : Bool} {a a' b b' : Float} (highlights : Float) (shadow : List Float) (sums : Sums)
      → v ≡ w → s0 ≡ t0 → s1 ≡ t1 → p ≡ p' → q ≡ q' → a ≡ a' → b ≡ b'
      → assembled v s0 s1 highlights p q shadow a b sums ≡ assembled w t0 t1 highlights p' q' shadow a' b' sums
  assembled_law highlights shadow sums h1 h2 h3 h4 h5 h6 h7 = cc

values_law : {distance distance' spot spot' distribution0 distribution0' red red' green green' blue blue' distribution1 distribution1' : Float} (fresnel : Float)
    → distance ≡ distance' → spot ≡ spot' → distribution0 ≡ distribution0' → red ≡ red' → green ≡ green' → blue ≡ blue' → distribution1 ≡ distribution1'
    → ◌≡◌ {A = Values}
    (record { distance = distance; spot = spot; distribution0 = distribution0; red = red; green = green; blue = blue; distribution1 = distribution1; fresnel = fresnel })
    (record { distance = distance'; spot = spot'; distribution0 = distribution0'; red = red'; green = green'; blue = blue'; distribution1 = distribution1'; fresnel = fresnel })
values_law fresnel h1 h2 h3 h4 h5 h6 h7 = cc

abbrev frame : List Float → List Float → List Float → List Float → Frame
frame view normal tangent normView = record { normal = normal; tangent = tangent; view = view; norm_view = normView }

abbrev pair_of : Sums → List Float × List Float
pair_of sums = (sums.diffuse, sums.specular)

module _ (self : Lighting) (tables : List ℕ) (view normal tangent normView shadow : List Float) where
  step_law : (slot : Slot) (light : Light) (sums : Sums)
      → with_light self tables view normal tangent normView shadow slot light (pair_of sums)
      ≡ pair_of (step_of tables (lighting_lookups self) (frame view normal tangent normView) (lighting_settings self shadow) (slot.0 + 1 == self.light_count) light sums)
  unfolding with_light results_of assembled step_of with_values with_values_by summed_of specular_of reflected_of highlights_of facing_of sided factor_by times_of values_of values_by spot_value fresnel_value distance_value inputs_of inputs_by along_tangent unit_if directions_of light_vector half_of lighting_lookups lighting_settings plus_of minus_of added_of shadow_for diffuse_of specular_by
  step_law slot light sums =
      let toLight = light_vector light view in
      let half = half_of self.needs_half normView toLight in
      let unit = unit_if self.needs_half half in
      let facing = facing_of light.two_sided (dot_of toLight normal) in
      let across = along_tangent self.config normal tangent unit in
      let last = nat_eq (slot.0 + 1) self.light_count in
      let spot = spot_law tables light.two_sided (dot_of normal unit) (dot_of normView unit) (dot_of normal normView) (dot_of toLight normal) (dot_of toLight light.spot) across in
      let lookup = lookup_law tables light.two_sided (dot_of normal unit) (dot_of normView unit) (dot_of normal normView) (dot_of toLight normal) (dot_of toLight light.spot) across in
      let fresnel = fresnel_law tables light.two_sided (dot_of normal unit) (dot_of normView unit) (dot_of normal normView) (dot_of toLight normal) (dot_of toLight light.spot) across in
      let distribution0 = lookup table_distribution0 self.distribution0 float1 float1 refl in
      let red = lookup table_reflect_red self.reflect_red float1 float1 refl in
      let values =
      values_law (values_of tables (lighting_lookups self) (frame view normal tangent normView) (directions_of light (frame view normal tangent normView) self.needs_half) light last).fresnel
      (distance_law tables light.number light.distance light.position view)
      (spot (table_spotlight + light.number.0) self.spotlight light.spotlight)
      distribution0 red
      (lookup table_reflect_green self.reflect_green _ _ red)
      (lookup table_reflect_blue self.reflect_blue _ _ red)
      (lookup table_distribution1 self.distribution1 float1 float1 refl) in
      assembled_law light half facing (highlights_of self.clamp_highlights facing) shadow sums values
      (specular0_law light half facing distribution0)
      (specular1_law light half facing values)
      refl
      refl
      (fresnel table_fresnel last self.fresnel_primary self.fresnel (at sums.diffuse 3))
      (fresnel table_fresnel last self.fresnel_secondary self.fresnel (at sums.specular 3))

  sums_law : (k : ℕ)
      → with_lights self tables view normal tangent normView shadow k
      ≡ pair_of (sums_by tables (lighting_lookups self) (frame view normal tangent normView) (lighting_settings self shadow) self.lights self.light_count k)
  unfolding with_lights sums_by light_at
  sums_law zero = refl
  sums_law (suc k) =
      ap (with_light self tables view normal tangent normView shadow (slot_of k) (light_at self (slot_of k))) (sums_law k)
      ∙ step_law (slot_of k) (light_at self (slot_of k)) (sums_by tables (lighting_lookups self) (frame view normal tangent normView) (lighting_settings self shadow) self.lights self.light_count k)
      ∙ rw add-one

-- ---- the whole

pub shade_law : (self : Lighting) (tables : List ℕ) (quaternion view : List Float) (textures : List (List Float))
    → shade self tables quaternion view textures ≡ shade_of self tables quaternion view textures
unfolding shade shade_of shade_by finished_of finish_of lighting_frame frame_of lighting_shadow unit_quaternion quaternion_over quaternion_norm tangent_of unit_if shadowed_alpha
shade_law self tables quaternion view textures =
    rw (shadow_law self.shadow textures, normal_law self.bump textures, tangent_law self.bump textures, sums_law)
