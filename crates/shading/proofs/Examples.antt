-- Closed runs of the law of shading, by computation: document 01's whole case, and the steps that a port mistakes most easily.
-- Assumes nothing.
use Rattle.std.proofs.Common.{◌≡◌, ℕ, ◌+◌, ◌*◌, true, false, List, [], ◌∷◌, set, replicate, refl}
use lib.Ieee.{Float, nan, neg, add, sub, mul, div, lt, eq, is_nan, of_int, of_bits, to_unsigned, to_signed}
use Rattle.root.specs.Root.{root_of}
use Rattle.binary32.specs.Binary32.{float_of, float0, float1, magnitude_of, before, max_of, min_of, clamp_of, floor_of, unsigned_place_of, signed_place_of, quantized_of, channel_of}
use Rattle.tables.specs.Tables.{interpolated, table_lookup}
use Rattle.vectors.specs.Vectors.{at, plus_of, times_of, over_of, dot_of, cross_of, normalized_of, axis_of, turn_of, plus_twice, rotate_of}
use Rattle.lighting.specs.declared.Light.{Light}
use Rattle.lighting.specs.declared.Lighting.{Lighting}
use Rattle.lighting.specs.declared.Lookup.{Lookup}
use Rattle.std.specs.Prelude.{Option, None, Some}
use Rattle.lighting.specs.declared.Bump.TheVariants.{Flat}
use Rattle.lighting.specs.declared.Distance.{Distance}
use Rattle.lighting.specs.Lighting.{light_at}
use Rattle.shading.specs.Shade.{map_or, is_some_and, shadow_of, bumped, surface_normal_of, surface_tangent_of, lookup_at, distance_of, sided, value_of, results_of, with_light, with_lights, shade, colours}

abbrev half : Float
half = float_of 0x3f00_0000

abbrev white : List Float
white = float1 ∷ float1 ∷ float1 ∷ []

abbrev grey : List Float
grey = half ∷ half ∷ half ∷ []

-- a fragment of 23 zeros
abbrev none : List Float
none = float0 ∷ float0 ∷ float0 ∷ []

abbrev texels : List (List Float)
texels = replicate 4 (float0 ∷ float0 ∷ float0 ∷ float0 ∷ [])

abbrev eight : Lighting → List ℕ → List ℕ
eight l tables = shade l tables (float0 ∷ none) none texels

-- a directional light
abbrev light : List Float → List Float → List Float → Option Distance → ℕ → Light
light direction diffuse ambient distance number =
    record {
      specular0 = none;
      specular1 = none;
      diffuse = diffuse;
      ambient = ambient;
      position = direction;
      direction = direction;
      spot = none;
      directional = true;
      two_sided = false;
      geometric0 = false;
      geometric1 = false;
      distance = distance;
      spotlight = false;
      shadowed = false;
      number = record { 0 = number };
    }

abbrev ahead : List Float
ahead = float0 ∷ float0 ∷ float1 ∷ []

abbrev lookup : Lookup
lookup = record { input = 6; absolute = false; scale = float1 }

abbrev lit : List Light → ℕ → Option Lookup → Lighting
lit lights count fresnel =
    record {
      lights = lights;
      light_count = count;
      global_ambient = none;
      config = 0;
      distribution0 = None;
      distribution1 = None;
      fresnel = fresnel;
      reflect_red = None;
      reflect_green = None;
      reflect_blue = None;
      spotlight = lookup;
      fresnel_primary = true;
      fresnel_secondary = false;
      clamp_highlights = false;
      needs_half = false;
      needs_view = false;
      bump = Flat;
      shadow = None;
    }

-- the tables, with value and step words at the entry of one table and at that of another, and every other entry 0
abbrev tables : ℕ → ℕ → ℕ → ℕ → List ℕ
tables table entry other place =
    set
    (set (set (replicate 12288 0) (2 * (256 * table + entry)) 0x3f00_0000) (2 * (256 * table + entry) + 1) 0x3e80_0000)
    (2 * (256 * other + place)) 0x3f00_0000

abbrev two_lamps : Lighting
two_lamps =
    lit (light ahead white none (Some (record { bias = float1; scale = float0 })) 3 ∷ light ahead none none None 1 ∷ []) 2 (Some lookup)

record Cases : Type 0 where
  -- document 01's whole case: 255 255 255 255 0 0 0 255
  white_lamp : eight (lit (light ahead white none None 0 ∷ []) 1 None) [] ≡ 255 ∷ 255 ∷ 255 ∷ 255 ∷ 0 ∷ 0 ∷ 0 ∷ 255 ∷ []
  -- as the Rust returns it: 1 1 1 1 0 0 0 1
  white-colours : colours (lit (light ahead white none None 0 ∷ []) 1 None) [] (float0 ∷ none) none texels ≡ float1 ∷ float1 ∷ float1 ∷ float1 ∷ float0 ∷ float0 ∷ float0 ∷ float1 ∷ []
  -- NaN facing a one-sided light is 0, and ambient survives
  nan_facing : eight (lit (light (nan ∷ nan ∷ nan ∷ []) white grey None 0 ∷ []) 1 None) [] ≡ 127 ∷ 127 ∷ 127 ∷ 255 ∷ 0 ∷ 0 ∷ 0 ∷ 255 ∷ []
  -- distance place 1 reads entry 255 with delta 1, in the table of the light's number, which is not its slot: 0.75. Fresnel sets the alpha whose flag is set: 0.5
  looked_up : eight two_lamps (tables 19 255 3 0) ≡ 191 ∷ 191 ∷ 191 ∷ 127 ∷ 0 ∷ 0 ∷ 0 ∷ 255 ∷ []
  -- after the first of two slots alpha is still 1
  not_yet : at (with_lights two_lamps [] none ahead none none (float1 ∷ white) 1).0 3 ≡ float1
  -- after the last it is what fresnel gives, from tables of zeros
  at_last : at (with_lights two_lamps [] none ahead none none (float1 ∷ white) 2).0 3 ≡ float0

cases : Cases
unfolding neg add sub mul div lt eq is_nan of_int of_bits to_unsigned to_signed root_of magnitude_of before max_of min_of clamp_of floor_of unsigned_place_of signed_place_of quantized_of channel_of interpolated table_lookup plus_of times_of over_of dot_of cross_of normalized_of axis_of turn_of plus_twice rotate_of light_at map_or is_some_and shadow_of bumped surface_normal_of surface_tangent_of lookup_at distance_of sided value_of results_of with_light with_lights shade colours
cases =
    record {
      white_lamp = refl;
      white-colours = refl;
      nan_facing = refl;
      looked_up = refl;
      not_yet = refl;
      at_last = refl;
    }
