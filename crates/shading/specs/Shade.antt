-- `Lighting::shade`, statement by statement and under its names: from a lighting, the tables, a fragment's quaternion and view and what its four
-- texture units sampled, the eight k of the printed line; and at the end what the call `shade` answers. Definitions only.
-- The code is proved against this: `shade_law` (ShadeLaws) equates `shade` with the code's steps, and the contract of `shading::shade` is `shades`.
-- A vector, a quaternion, a texel and a sum are lists of floats, and `at v i` is v[i]. ⊕ ⊖ ⊗ ⊘ are binary32's + − · /, each rounded once.
-- From elsewhere: max, min, clamp, the places in a table and the quantised channel (Binary32), root (Root), dot, normalized, rotate (Vectors), a table's
-- value + step · delta (Tables), and the tables' numbers (Lighting).
use Rattle.std.specs.Prelude.{ℕ, zero, suc, ◌+◌, Bool, false, cond, ◌&&◌, List, [], ◌∷◌, ◌++◌, map, length, get_or, ◌==◌, nat_eq, slice_index_or, Float, Option, None, Some, if◌then◌else◌}
use Rattle.std.specs.Float.Ieee.{eq, lt, neg}
use Rattle.refusals.specs.Refusals.{tables_refusal, answer_refusal, ◌else◌}
use Rattle.binary32.specs.Binary32.{float0, float1, magnitude_of, max_of, min_of, clamp_of, unsigned_place_of, signed_place_of, quantized_of, channel_of}
use Rattle.binary32.specs.declared.Place.{Place}
use Rattle.root.specs.Root.{root_of}
use Rattle.vectors.specs.Vectors.{at, ◌⊕◌, ◌⊖◌, ◌⊗◌, ◌⊘◌, two, dot_of, normalized_of, rotate_of}
use Rattle.tables.specs.Tables.{table_lookup}
use Rattle.lighting.specs.Lighting.{zero_vector, slot_of, light_at, table_distribution0, table_distribution1, table_fresnel, table_reflect_blue, table_reflect_green, table_reflect_red, table_spotlight, table_distance}
use Rattle.lighting.specs.declared.Slot.{Slot}
use Rattle.lighting.specs.declared.Light.{Light}
use Rattle.lighting.specs.declared.Lighting.{Lighting}
use Rattle.lighting.specs.declared.LightNumber.{LightNumber}
use Rattle.lighting.specs.declared.Lookup.{Lookup}
use Rattle.lighting.specs.declared.Shadow.{Shadow}
use Rattle.lighting.specs.declared.Bump.{Bump}
use Rattle.lighting.specs.declared.Bump.TheVariants.{Flat, Normal, Tangent}
use Rattle.lighting.specs.declared.Distance.{Distance}
use Rattle.block.specs.Block.{lighting_refusal}

-- ---- Rust's forms

-- std::array::from_fn(f), of three and of four
abbrev pub three : (ℕ → Float) → List Float
three f = f 0 ∷ f 1 ∷ f 2 ∷ []

abbrev pub four : (ℕ → Float) → List Float
four f = f 0 ∷ f 1 ∷ f 2 ∷ f 3 ∷ []

-- red, green and blue by f, and an alpha
abbrev pub colour : (ℕ → Float) → Float → List Float
colour f alpha = f 0 ∷ f 1 ∷ f 2 ∷ alpha ∷ []

-- lookup.map_or(missing, read)
unfoldable pub map_or : Option Lookup → Float → (Lookup → Float) → Float
map_or None missing read = missing
map_or (Some lookup) missing read = read lookup

-- shadow.is_some_and(flag)
unfoldable pub is_some_and : Option Shadow → (Shadow → Bool) → Bool
is_some_and None flag = false
is_some_and (Some s) flag = flag s

-- ---- Before the lights

-- shadow: 1, 1, 1, 1 without one; else the texel of its unit, each channel taken from 1 where it is inverted.
unfoldable pub shadow_of : Option Shadow → List (List Float) → List Float
shadow_of None textures = four (λ i. float1)
shadow_of (Some s) textures =
    let texel = get_or textures s.unit [] in
    if s.invert then four (λ i. float1 ⊖ at texel i) else texel

-- A bump map's texel as a vector: each channel times 2, less 1.
unfoldable pub bumped : List Float → List Float
bumped texel = three (λ i. at texel i ⊗ two ⊖ float1)

-- surface_normal: 0, 0, 1 but for a normal map, whose z may be rebuilt from x and y.
unfoldable pub surface_normal_of : Bump → List (List Float) → List Float
surface_normal_of Flat textures = float0 ∷ float0 ∷ float1 ∷ []
surface_normal_of (Normal unit rebuild) textures =
    let normal = bumped (slice_index_or textures unit []) in
    let z = root_of (max_of (float1 ⊖ (at normal 0 ⊗ at normal 0 ⊕ at normal 1 ⊗ at normal 1)) float0) in
    if rebuild then at normal 0 ∷ at normal 1 ∷ z ∷ [] else normal
surface_normal_of (Tangent unit) textures = float0 ∷ float0 ∷ float1 ∷ []

-- surface_tangent: 1, 0, 0 but for a tangent map.
unfoldable pub surface_tangent_of : Bump → List (List Float) → List Float
surface_tangent_of Flat textures = float1 ∷ float0 ∷ float0 ∷ []
surface_tangent_of (Normal unit rebuild) textures = float1 ∷ float0 ∷ float0 ∷ []
surface_tangent_of (Tangent unit) textures = bumped (slice_index_or textures unit [])

-- ---- Reading a table

-- A table's value + step · delta at a place: an entry, and how far past it.
unfoldable pub lookup_at : List ℕ → ℕ → Place → Float
lookup_at tables table place = table_lookup tables table place.entry place.delta

-- distance: 1 without one; else the light's own table, by its number, at the norm of −view − position, scaled, biased and clamped 0 to 1.
unfoldable pub distance_of : List ℕ → LightNumber → Option Distance → List Float → List Float → Float
distance_of tables number None position view = float1
distance_of tables number (Some distance) position view =
    let offset = three (λ i. neg (at view i) ⊖ at position i) in
    let place = clamp_of (distance.scale ⊗ root_of (dot_of offset offset) ⊕ distance.bias) float0 float1 in
    lookup_at tables (table_distance + number.0) (unsigned_place_of place)

-- A two-sided light takes the magnitude; another takes nothing below 0, and 0 for NaN.
unfoldable pub sided : Bool → Float → Float
sided twoSided x = if twoSided then magnitude_of x else max_of x float0

-- value: the result that the lookup's input picks, 0 where there is none, read from the table and scaled. An absolute lookup has an unsigned index,
-- another a signed one, which wraps into the upper half of the table.
unfoldable pub value_of : List ℕ → Bool → List Float → Lookup → ℕ → Float
value_of tables twoSided results lookup table =
    let result = get_or results lookup.input float0 in
    lookup.scale ⊗ lookup_at tables table (if lookup.absolute then unsigned_place_of (sided twoSided result) else signed_place_of result)

-- ---- Each light

module _ (self : Lighting) (tables : List ℕ) (view normal tangent normView shadow : List Float) where
  -- The dot product that a lookup takes, by its input: 0 to 5, of which 5 is for configuration 8 only.
  unfoldable pub results_of : List Float → List Float → List Float → List Float
  results_of light_vector halfUnit spot =
      let along = dot_of normal halfUnit in
      let across = dot_of (three (λ i. at halfUnit i ⊖ at normal i ⊗ along)) tangent in
      dot_of normal halfUnit ∷
      dot_of normView halfUnit ∷
      dot_of normal normView ∷
      dot_of light_vector normal ∷
      dot_of light_vector spot ∷
      (if nat_eq self.config 8 then across else float0) ∷ []

  -- The loop's body: the two sums with what the light in a slot adds.
  unfoldable pub with_light : Slot → Light → List Float × List Float → List Float × List Float
  with_light slot light sums =
      let (diffuseSum, specularSum) = sums in
      -- the unit vector toward the light
      let light_vector = if light.directional then light.direction else normalized_of (three (λ i. at light.position i ⊕ at view i)) in
      -- half way between it and the viewer, zero where nothing reads it
      let half = if self.needs_half then three (λ i. at normView i ⊕ at light_vector i) else zero_vector in
      let halfUnit = if self.needs_half then normalized_of half else zero_vector in
      let distance = distance_of tables light.number light.distance light.position view in
      let value = value_of tables light.two_sided (results_of light_vector halfUnit light.spot) in
      -- what the tables give, 1 where a lookup is missing; green and blue fall back to red
      let spot = if light.spotlight then value self.spotlight (table_spotlight + light.number.0) else float1 in
      let distribution0 = map_or self.distribution0 float1 (λ lookup. value lookup table_distribution0) in
      let red = map_or self.reflect_red float1 (λ lookup. value lookup table_reflect_red) in
      let green = map_or self.reflect_green red (λ lookup. value lookup table_reflect_green) in
      let blue = map_or self.reflect_blue red (λ lookup. value lookup table_reflect_blue) in
      let reflect = red ∷ green ∷ blue ∷ [] in
      let distribution1 = map_or self.distribution1 float1 (λ lookup. value lookup table_distribution1) in
      let specular0 = three (λ i. at light.specular0 i ⊗ distribution0) in
      let specular1 = three (λ i. distribution1 ⊗ at reflect i ⊗ at light.specular1 i) in
      -- only the last slot lit applies fresnel, to each alpha whose flag is set
      let last = slot.0 + 1 == self.light_count in
      let fresnel : Float → Float = λ alpha. map_or self.fresnel alpha (λ lookup. value lookup table_fresnel) in
      let diffuseAlpha = if last && self.fresnel_primary then fresnel (at diffuseSum 3) else at diffuseSum 3 in
      let specularAlpha = if last && self.fresnel_secondary then fresnel (at specularSum 3) else at specularSum 3 in
      -- how far the surface faces the light; where that is 0 highlights may be clamped away
      let facing = sided light.two_sided (dot_of light_vector normal) in
      let highlights = if self.clamp_highlights && eq facing float0 then float0 else float1 in
      -- the geometric factor, on each specular colour whose flag is set
      let squared = dot_of half half in
      let factor = if eq squared float0 then float0 else min_of (facing ⊘ squared) float1 in
      let specular0 = if light.geometric0 then three (λ i. at specular0 i ⊗ factor) else specular0 in
      let specular1 = if light.geometric1 then three (λ i. at specular1 i ⊗ factor) else specular1 in
      -- the shadow on each sum, or 1, 1, 1
      let shadowed : Bool → List Float = λ enabled. if enabled && light.shadowed then three (at shadow) else three (λ i. float1) in
      let shadowPrimary = shadowed (is_some_and self.shadow (λ s. s.primary)) in
      let shadowSecondary = shadowed (is_some_and self.shadow (λ s. s.secondary)) in
      -- red, green and blue of the two sums
      let diffuse : ℕ → Float = λ i. (at light.diffuse i ⊗ facing ⊕ at light.ambient i) ⊗ distance ⊗ spot in
      let specular : ℕ → Float = λ i. (at specular0 i ⊕ at specular1 i) ⊗ highlights ⊗ distance ⊗ spot in
      let diffuseSum = colour (λ i. at diffuseSum i ⊕ diffuse i ⊗ at shadowPrimary i) diffuseAlpha in
      let specularSum = colour (λ i. at specularSum i ⊕ specular i ⊗ at shadowSecondary i) specularAlpha in
      (diffuseSum, specularSum)

  -- The sums after the first k slots, both from 0, 0, 0, 1.
  unfoldable pub with_lights : ℕ → List Float × List Float
  with_lights zero = (colour (λ i. float0) float1, colour (λ i. float0) float1)
  with_lights (suc k) = with_light (slot_of k) (light_at self (slot_of k)) (with_lights k)

-- ---- The whole

-- The eight k: primary red, green, blue and alpha, then secondary.
unfoldable pub shade : Lighting → List ℕ → List Float → List Float → List (List Float) → List ℕ
shade self tables quaternion view textures =
    -- a quaternion whose norm is not above zero, or is NaN, is replaced by 0, 0, 0, 1
    let square : ℕ → Float = λ i. at quaternion i ⊗ at quaternion i in
    let norm = root_of (square 0 ⊕ square 1 ⊕ square 2 ⊕ square 3) in
    let quaternion = if lt float0 norm then four (λ i. at quaternion i ⊘ norm) else float0 ∷ float0 ∷ float0 ∷ float1 ∷ [] in
    let shadow = shadow_of self.shadow textures in
    let surface_normal = surface_normal_of self.bump textures in
    let surface_tangent = surface_tangent_of self.bump textures in
    -- the quaternion turns the normal, and the tangent in configuration 8, the only one that reads it
    let normal = rotate_of quaternion surface_normal in
    let tangent = if self.config == 8 then rotate_of quaternion surface_tangent else surface_tangent in
    -- the unit vector toward the viewer, zero where nothing reads it
    let normView = if self.needs_view then normalized_of view else zero_vector in
    let (diffuseSum, specularSum) = with_lights self tables view normal tangent normView shadow self.light_count in
    -- the shadow's alpha, on each alpha whose fresnel flag is set
    let alpha = is_some_and self.shadow (λ s. s.alpha) in
    let diffuseAlpha = if alpha && self.fresnel_primary then at diffuseSum 3 ⊗ at shadow 3 else at diffuseSum 3 in
    let specularAlpha = if alpha && self.fresnel_secondary then at specularSum 3 ⊗ at shadow 3 else at specularSum 3 in
    -- the global ambient colour; then each channel quantised
    let primary = colour (λ i. at diffuseSum i ⊕ at self.global_ambient i) diffuseAlpha in
    let secondary = colour (at specularSum) specularAlpha in
    map quantized_of (primary ++ secondary)

-- As the Rust returns them: each k over 255.
unfoldable pub colours : Lighting → List ℕ → List Float → List Float → List (List Float) → List Float
colours self tables quaternion view textures = map channel_of (shade self tables quaternion view textures)

-- ---- What the call answers

-- A number and the answer slice as it stands afterwards.
pub record Shaded : Type 0 where
  pub number : ℕ
  pub answer : List ℕ

abbrev pub shaded : ℕ → List ℕ → Shaded
shaded k a = record { number = k; answer = a }

-- "2; 9 as below; 7 as for pack": the 9 of the answer alone, since the fragment comes by value.
unfoldable pub shade_refusal : Lighting → List ℕ → List ℕ → ℕ
shade_refusal self tables answer = tables_refusal (length tables) else (answer_refusal (length answer) else lighting_refusal self)

-- A refusal leaves the answer untouched.
unfoldable pub shades : Lighting → List ℕ → List Float → List Float → List (List Float) → List ℕ → Shaded
shades self tables quaternion view textures answer =
    shaded (shade_refusal self tables answer)
    (cond (shade_refusal self tables answer == 0) (shade self tables quaternion view textures) answer)
