-- What the code computes of one light, step by step: how much a surface faces it, the ray to it, where it reads the tables and what stands there, what its lookups
-- make of that, its terms, and the sums with them. Nobody has to trust it: `shade_law` (ShadeLaws of shading) ties it to Shade. Definitions only.
use Rattle.std.specs.Prelude.{ℕ, ◌+◌, ◌%◌, List, [], ◌∷◌, Bool, cond, ◌&&◌, ◌||◌, eqb, get_or, Float, Option, None, Some, is_some}
use Rattle.std.specs.Float.Ieee.{eq}
use Rattle.binary32.specs.Binary32.{float0, float1, magnitude_of, max_of, min_of, clamp_of, unsigned_place_of, signed_place_of}
use Rattle.binary32.specs.declared.Place.{Place}
use Rattle.vectors.specs.Vectors.{at, ◌⊕◌, ◌⊗◌, ◌⊘◌, dot_of, times_of}
use Rattle.vectors.specs.Steps.{minus_of}
use Rattle.tables.specs.Tables.{table_lookup}
use Rattle.lighting.specs.Lighting.{table_distribution0, table_distribution1, table_fresnel, table_reflect_blue, table_reflect_green, table_reflect_red, table_spotlight, table_distance, zero_vector}
use Rattle.lighting.specs.declared.Light.{Light}
use Rattle.lighting.specs.declared.LightNumber.{LightNumber}
use Rattle.lighting.specs.declared.Lookup.{Lookup}
use Rattle.lighting.specs.declared.Distance.{Distance}
use Rattle.lighting.specs.declared.TableLookups.{TableLookups}
use Rattle.surface.specs.declared.Frame.{Frame}
use Rattle.surface.specs.Steps.{unit_if, offset_norm, directions_by, directions_of}
use Rattle.surface.specs.declared.Directions.{Directions}
use Rattle.light_steps.specs.declared.types.LightingLookups.{LightingLookups}
use Rattle.light_steps.specs.declared.types.Reading.{Reading}
use Rattle.light_steps.specs.declared.types.Readings.{Readings}
use Rattle.light_steps.specs.declared.types.Values.{Values}
use Rattle.light_steps.specs.declared.types.Settings.{Settings}
use Rattle.light_steps.specs.declared.types.Sums.{Sums}

-- ---- how much the surface faces a light

-- NaN is 0 for a one-sided light
unfoldable pub facing_of : Bool → Float → Float
facing_of twoSided x = cond twoSided (magnitude_of x) (max_of x float0)

unfoldable pub highlights_of : Bool → Float → Float
highlights_of clamp facing = cond (clamp && eq facing float0) float0 float1

-- from the dot of the half vector with itself
unfoldable pub factor_by : Float → Float → Float
factor_by facing squared = cond (eq squared float0) float0 (min_of (facing ⊘ squared) float1)

-- a light with neither geometric flag reads no factor
unfoldable pub factor_of : Light → List Float → Float → Float
factor_of light half facing = cond (light.geometric0 || light.geometric1) (factor_by facing (dot_of half half)) float1

-- ---- the inputs of the lookups

-- how far the half vector, less what it has of the normal, goes along the tangent: in configuration 8 only
unfoldable pub along_tangent : ℕ → List Float → List Float → List Float → Float
along_tangent config normal tangent halfUnit =
    cond (eqb config 8) (dot_of (minus_of halfUnit (times_of normal (dot_of normal halfUnit))) tangent) float0

unfoldable pub inputs_by : ℕ → Frame → List Float → List Float → List Float → List Float
inputs_by config frame light_vector halfUnit spot =
    dot_of frame.normal halfUnit ∷
    dot_of frame.norm_view halfUnit ∷
    dot_of frame.normal frame.norm_view ∷
    dot_of light_vector frame.normal ∷
    dot_of light_vector spot ∷
    along_tangent config frame.normal frame.tangent halfUnit ∷
    float0 ∷
    float0 ∷ []

unfoldable pub inputs_of : ℕ → Frame → Directions → Bool → List Float → List Float
inputs_of config frame directions needed spot =
    inputs_by config frame directions.light_vector (unit_if needed directions.half) spot

-- ---- where a lookup is read

-- 0 for an input above 7
unfoldable pub input_of : Lookup → List Float → Float
input_of lookup inputs = get_or inputs lookup.input float0

-- an absolute lookup takes the input as facing is taken, and has no entries below zero
unfoldable pub place_of : Bool → Bool → Float → Place
place_of absolute twoSided x = cond absolute (unsigned_place_of (facing_of twoSided x)) (signed_place_of x)

-- one of eight tables from the first on, by the light's number, which is below 8
unfoldable pub table_for : ℕ → LightNumber → ℕ
table_for first number = first + number.0 % 8

abbrev pub reading_at : ℕ → Place → Reading
reading_at table place = record { table = table; place = place }

unfoldable pub reading_by : ℕ → Lookup → Bool → List Float → Reading
reading_by table lookup twoSided inputs = reading_at table (place_of lookup.absolute twoSided (input_of lookup inputs))

unfoldable pub reading_if : ℕ → Option Lookup → Bool → List Float → Option Reading
reading_if table None twoSided inputs = None
reading_if table (Some lookup) twoSided inputs = Some (reading_by table lookup twoSided inputs)

-- ---- where a light's distance is read

-- place 1 reads entry 255 with delta 1
unfoldable pub distance_place : Distance → Float → Place
distance_place distance norm = unsigned_place_of (clamp_of (distance.scale ⊗ norm ⊕ distance.bias) float0 float1)

unfoldable pub distance_reading_by : Option Distance → LightNumber → Float → Option Reading
distance_reading_by None number norm = None
distance_reading_by (Some distance) number norm = Some (reading_at (table_for table_distance number) (distance_place distance norm))

-- ---- where a light reads its lookups

unfoldable pub spot_reading : Light → Lookup → List Float → Option Reading
spot_reading light lookup inputs =
    cond light.spotlight (Some (reading_by (table_for table_spotlight light.number) lookup light.two_sided inputs)) None

-- only the last slot lit reads fresnel
unfoldable pub fresnel_reading : Bool → Option Lookup → Bool → List Float → Option Reading
fresnel_reading last lookup twoSided inputs = cond last (reading_if table_fresnel lookup twoSided inputs) None

unfoldable pub readings_by : TableLookups → Light → List Float → Bool → Readings
readings_by lookups light inputs last =
    let twoSided = light.two_sided in
    record {
      spot = spot_reading light lookups.spotlight inputs;
      distribution0 = reading_if table_distribution0 lookups.distribution0 twoSided inputs;
      red = reading_if table_reflect_red lookups.reflect_red twoSided inputs;
      green = reading_if table_reflect_green lookups.reflect_green twoSided inputs;
      blue = reading_if table_reflect_blue lookups.reflect_blue twoSided inputs;
      distribution1 = reading_if table_distribution1 lookups.distribution1 twoSided inputs;
      fresnel = fresnel_reading last lookups.fresnel twoSided inputs;
    }

unfoldable pub readings_of : LightingLookups → Frame → Directions → Light → Bool → Readings
readings_of lookups frame directions light last =
    readings_by lookups.tables light (inputs_of lookups.config frame directions lookups.needs_half light.spot) last

-- ---- what the entries give there

abbrev pub at_place : List ℕ → ℕ → Place → Float
at_place tables table place = table_lookup tables table place.entry place.delta

unfoldable pub read_value : List ℕ → Option Reading → Float
read_value tables None = float1
read_value tables (Some reading) = at_place tables reading.table reading.place

unfoldable pub read_all : List ℕ → Readings → Float → Values
read_all tables readings distance =
    record {
      distance = distance;
      spot = read_value tables readings.spot;
      distribution0 = read_value tables readings.distribution0;
      red = read_value tables readings.red;
      green = read_value tables readings.green;
      blue = read_value tables readings.blue;
      distribution1 = read_value tables readings.distribution1;
      fresnel = read_value tables readings.fresnel;
    }

-- ---- whether any table is read

-- whether a light reads any table but its distance table
unfoldable pub reads_tables : TableLookups → Light → Bool
reads_tables lookups light =
    is_some lookups.distribution0
    || is_some lookups.distribution1
    || is_some lookups.fresnel
    || is_some lookups.reflect_red
    || is_some lookups.reflect_green
    || is_some lookups.reflect_blue
    || light.spotlight

-- ---- what the lookups make of the entries

unfoldable pub scaled_if : Option Lookup → Float → Float → Float
scaled_if None x missing = missing
scaled_if (Some lookup) x missing = lookup.scale ⊗ x

unfoldable pub spot_scaled : Light → Lookup → Float → Float
spot_scaled light lookup x = cond light.spotlight (lookup.scale ⊗ x) float1

unfoldable pub fresnel_scaled : Bool → Option Lookup → Float → Float
fresnel_scaled last lookup x = cond last (scaled_if lookup x float1) float1

unfoldable pub values_from : TableLookups → Light → Values → Bool → Values
values_from lookups light read last =
    let red = scaled_if lookups.reflect_red read.red float1 in
    record {
      distance = read.distance;
      spot = spot_scaled light lookups.spotlight read.spot;
      distribution0 = scaled_if lookups.distribution0 read.distribution0 float1;
      red = red;
      green = scaled_if lookups.reflect_green read.green red;
      blue = scaled_if lookups.reflect_blue read.blue red;
      distribution1 = scaled_if lookups.distribution1 read.distribution1 float1;
      fresnel = fresnel_scaled last lookups.fresnel read.fresnel;
    }

-- of a light that reads no table but its distance table
unfoldable pub unread : Float → Values
unread distance =
    record {
      distance = distance;
      spot = float1;
      distribution0 = float1;
      red = float1;
      green = float1;
      blue = float1;
      distribution1 = float1;
      fresnel = float1;
    }

-- ---- the same values in one go: reading, entry and scale together (ReadingsLaws)

unfoldable pub lookup_value : List ℕ → ℕ → Lookup → Bool → List Float → Float
lookup_value tables table lookup twoSided inputs =
    lookup.scale ⊗ at_place tables table (place_of lookup.absolute twoSided (input_of lookup inputs))

unfoldable pub value_if : List ℕ → ℕ → Option Lookup → Bool → List Float → Float → Float
value_if tables table None twoSided inputs missing = missing
value_if tables table (Some lookup) twoSided inputs missing = lookup_value tables table lookup twoSided inputs

-- by the light's number
abbrev pub spotlight_table : LightNumber → ℕ
spotlight_table number = table_spotlight + number.0

unfoldable pub spot_value : List ℕ → Light → Lookup → List Float → Float
spot_value tables light lookup inputs =
    cond light.spotlight (lookup_value tables (spotlight_table light.number) lookup light.two_sided inputs) float1

-- only the last slot lit reads fresnel
unfoldable pub fresnel_value : List ℕ → Bool → Option Lookup → Bool → List Float → Float
fresnel_value tables last lookup twoSided inputs = cond last (value_if tables table_fresnel lookup twoSided inputs float1) float1

-- by the light's number
abbrev pub distance_table : LightNumber → ℕ
distance_table number = table_distance + number.0

unfoldable pub distance_by : List ℕ → Option Distance → LightNumber → Float → Float
distance_by tables None number norm = float1
distance_by tables (Some distance) number norm = at_place tables (distance_table number) (distance_place distance norm)

unfoldable pub distance_value : List ℕ → Light → List Float → Float
distance_value tables light view = distance_by tables light.distance light.number (offset_norm view light.position)

-- where it is read
unfoldable pub distance_reading : Light → List Float → Option Reading
distance_reading light view = distance_reading_by light.distance light.number (offset_norm view light.position)

-- green and blue fall back to red
unfoldable pub values_by : List ℕ → TableLookups → Light → List Float → Float → Bool → Values
values_by tables lookups light inputs distance last =
    let twoSided = light.two_sided in
    let red = value_if tables table_reflect_red lookups.reflect_red twoSided inputs float1 in
    record {
      distance = distance;
      spot = spot_value tables light lookups.spotlight inputs;
      distribution0 = value_if tables table_distribution0 lookups.distribution0 twoSided inputs float1;
      red = red;
      green = value_if tables table_reflect_green lookups.reflect_green twoSided inputs red;
      blue = value_if tables table_reflect_blue lookups.reflect_blue twoSided inputs red;
      distribution1 = value_if tables table_distribution1 lookups.distribution1 twoSided inputs float1;
      fresnel = fresnel_value tables last lookups.fresnel twoSided inputs;
    }

unfoldable pub values_of : List ℕ → LightingLookups → Frame → Directions → Light → Bool → Values
values_of tables lookups frame directions light last =
    values_by tables lookups.tables light (inputs_of lookups.config frame directions lookups.needs_half light.spot)
    (distance_value tables light frame.view) last

-- ---- the terms of a light, before any shadow

unfoldable pub diffuse_of : Light → Float → Float → Float → List Float
diffuse_of light facing distance spot =
    (at light.diffuse 0 ⊗ facing ⊕ at light.ambient 0) ⊗ distance ⊗ spot ∷
    (at light.diffuse 1 ⊗ facing ⊕ at light.ambient 1) ⊗ distance ⊗ spot ∷
    (at light.diffuse 2 ⊗ facing ⊕ at light.ambient 2) ⊗ distance ⊗ spot ∷ []

unfoldable pub times_if : Bool → List Float → Float → List Float
times_if geometric v factor = cond geometric (times_of v factor) v

unfoldable pub specular0_of : Light → Float → Float → List Float
specular0_of light distribution0 factor = times_if light.geometric0 (times_of light.specular0 distribution0) factor

unfoldable pub reflected_of : List Float → Values → List Float
reflected_of specular1 v =
    v.distribution1 ⊗ v.red ⊗ at specular1 0 ∷
    v.distribution1 ⊗ v.green ⊗ at specular1 1 ∷
    v.distribution1 ⊗ v.blue ⊗ at specular1 2 ∷ []

unfoldable pub specular1_of : Light → Values → Float → List Float
specular1_of light v factor = times_if light.geometric1 (reflected_of light.specular1 v) factor

unfoldable pub specular_by : List Float → List Float → Float → Float → Float → List Float
specular_by specular0 specular1 highlights distance spot =
    (at specular0 0 ⊕ at specular1 0) ⊗ highlights ⊗ distance ⊗ spot ∷
    (at specular0 1 ⊕ at specular1 1) ⊗ highlights ⊗ distance ⊗ spot ∷
    (at specular0 2 ⊕ at specular1 2) ⊗ highlights ⊗ distance ⊗ spot ∷ []

unfoldable pub specular_of : Light → List Float → Values → Bool → Float → List Float
specular_of light half v clamp facing =
    let factor = factor_of light half facing in
    specular_by (specular0_of light v.distribution0 factor) (specular1_of light v factor)
    (highlights_of clamp facing) v.distance v.spot

-- ---- the sums with its terms

-- a light outside the shadow is multiplied by 1
unfoldable pub shadow_for : Bool → List Float → List Float
shadow_for shadowed shadow =
    cond shadowed (at shadow 0 ∷ at shadow 1 ∷ at shadow 2 ∷ []) (float1 ∷ float1 ∷ float1 ∷ [])

unfoldable pub added_of : List Float → List Float → List Float → Float → List Float
added_of sum terms shadow alpha =
    at sum 0 ⊕ at terms 0 ⊗ at shadow 0 ∷
    at sum 1 ⊕ at terms 1 ⊗ at shadow 1 ∷
    at sum 2 ⊕ at terms 2 ⊗ at shadow 2 ∷
    alpha ∷ []

-- fresnel takes the place of alpha where it is applied
unfoldable pub summed_of : List Float → List Float → Bool → List Float → Bool → Float → List Float
summed_of sum terms shadowed shadow applied fresnel =
    added_of sum terms (shadow_for shadowed shadow) (cond applied fresnel (at sum 3))

-- both sums with a light's terms; `applied` says whether fresnel is, to each alpha whose flag is set
abbrev pub with_terms : Sums → List Float → List Float → Bool → Settings → Bool → Float → Sums
with_terms sums diffuse specular shadowed settings applied fresnel =
    record {
      diffuse =
          summed_of sums.diffuse diffuse (settings.shadow_primary && shadowed) settings.shadow (applied && settings.fresnel_primary) fresnel;
      specular =
          summed_of sums.specular specular (settings.shadow_secondary && shadowed) settings.shadow (applied && settings.fresnel_secondary) fresnel;
    }

unfoldable pub with_values_by : Sums → Light → List Float → Values → Settings → Bool → Float → Sums
with_values_by sums light half v settings applied facing =
    with_terms sums (diffuse_of light facing v.distance v.spot) (specular_of light half v settings.clamp_highlights facing)
    light.shadowed settings applied v.fresnel

unfoldable pub with_values : Sums → Light → List Float → Directions → Values → Settings → Bool → Sums
with_values sums light normal directions v settings applied =
    with_values_by sums light directions.half v settings applied
    (facing_of light.two_sided (dot_of directions.light_vector normal))

-- ---- one light

-- of a light without tables only a geometric factor reads the half vector: one without that is left without it
unfoldable pub unread_directions : Light → List Float → Frame → Bool → Directions
unread_directions light vector frame needed =
    cond (light.geometric0 || light.geometric1) (directions_by vector frame needed) (record { light_vector = vector; half = zero_vector })

-- the sums with one light's contribution; `last` is the last slot lit, where fresnel is applied if there is its lookup
unfoldable pub step_of : List ℕ → LightingLookups → Frame → Settings → Bool → Light → Sums → Sums
step_of tables lookups frame settings last light sums =
    let directions = directions_of light frame lookups.needs_half in
    with_values sums light frame.normal directions (values_of tables lookups frame directions light last) settings (last && is_some lookups.tables.fresnel)
