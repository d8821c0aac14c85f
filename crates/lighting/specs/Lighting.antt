-- What is said of a lighting: the tables by number, the blank light and lighting, off and on, the light of a slot, and which lightings are in range. Definitions only.
use Rattle.std.specs.Prelude.{ℕ, List, [], ◌∷◌, Bool, false, ◌&&◌, leb, replicate, get_or, Float, Option, None, Some, is_some}
use Rattle.std.specs.Float.{binary32}
use Rattle.std.specs.Float.Ieee.{of_bits}
use Rattle.lighting.specs.declared.Slot.{Slot}
use Rattle.lighting.specs.declared.Distance.{Distance}
use Rattle.lighting.specs.declared.Light.{Light}
use Rattle.lighting.specs.declared.Bump.{Bump}
use Rattle.lighting.specs.declared.Bump.TheVariants.{Flat, Normal, Tangent}
use Rattle.lighting.specs.declared.Shadow.{Shadow}
use Rattle.lighting.specs.declared.Lighting.{Lighting}
use Rattle.lighting.specs.Forms.{every}

-- ---- the tables, by number

abbrev pub table_distribution0 : ℕ
table_distribution0 = 0

abbrev pub table_distribution1 : ℕ
table_distribution1 = 1

abbrev pub table_fresnel : ℕ
table_fresnel = 3

abbrev pub table_reflect_blue : ℕ
table_reflect_blue = 4

abbrev pub table_reflect_green : ℕ
table_reflect_green = 5

abbrev pub table_reflect_red : ℕ
table_reflect_red = 6

-- eight for the spotlights and eight for the distances, by the light's number
abbrev pub table_spotlight : ℕ
table_spotlight = 8

abbrev pub table_distance : ℕ
table_distance = 16

-- ---- blank: every number zero, every flag clear, every optional part missing

abbrev pub zero_float : Float
zero_float = of_bits binary32 0

abbrev pub zero_vector : List Float
zero_vector = zero_float ∷ zero_float ∷ zero_float ∷ []

-- a light that gives nothing: each of its vectors is v, every flag is clear, and it is light 0
abbrev pub dark_light : List Float → Light
dark_light v =
    record {
      specular0 = v;
      specular1 = v;
      diffuse = v;
      ambient = v;
      position = v;
      direction = v;
      spot = v;
      directional = false;
      two_sided = false;
      geometric0 = false;
      geometric1 = false;
      distance = None;
      spotlight = false;
      shadowed = false;
      number = record { 0 = 0 };
    }

-- `Light::default()`: what stands in a slot that isn't lit
unfoldable pub blank_light : Light
blank_light = dark_light zero_vector

-- the lighting that gives nothing
unfoldable pub blank_lighting : Lighting
blank_lighting =
    record {
      lights = replicate 8 blank_light;
      light_count = 0;
      global_ambient = zero_vector;
      config = 0;
      distribution0 = None;
      distribution1 = None;
      fresnel = None;
      reflect_red = None;
      reflect_green = None;
      reflect_blue = None;
      spotlight = record { input = 0; absolute = false; scale = zero_float };
      fresnel_primary = false;
      fresnel_secondary = false;
      clamp_highlights = false;
      needs_half = false;
      needs_view = false;
      bump = Flat;
      shadow = None;
    }

-- ---- the optional lighting

-- None
abbrev pub off : Option Lighting
off = None

-- Some(l)
abbrev pub on : Lighting → Option Lighting
on l = Some l

-- ---- the lights in their slots

-- slot s
abbrev pub slot_of : ℕ → Slot
slot_of s = record { 0 = s }

-- what a list of lights is read with past its end: the record of empties
abbrev pub no_light : Light
no_light = dark_light []

-- the light of a slot
unfoldable pub light_at : Lighting → Slot → Light
light_at l slot = get_or l.lights slot.0 no_light

-- light.distance.is_some()
unfoldable pub is_scaled : Option Distance → Bool
is_scaled distance = is_some distance

-- ---- the texture units, 0 where there is none

unfoldable pub bump_unit : Bump → ℕ
bump_unit Flat = 0
bump_unit (Normal unit rebuild) = unit
bump_unit (Tangent unit) = unit

unfoldable pub shadow_unit : Option Shadow → ℕ
shadow_unit None = 0
shadow_unit (Some shadow) = shadow.unit

-- ---- lightings made by the caller

-- no "lit light's number above 7"
unfoldable pub numbers_fit : Lighting → Bool
numbers_fit l = every l.light_count (λ s. leb (light_at l (slot_of s)).number.0 7)

-- not "with a unit above 3, a count outside 1–8 or a lit light's number above 7"
unfoldable pub in_range : Lighting → Bool
in_range l =
    leb (bump_unit l.bump) 3
    && leb (shadow_unit l.shadow) 3
    && leb 1 l.light_count
    && leb l.light_count 8
    && numbers_fit l
