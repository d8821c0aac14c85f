-- What the laws of decoding say: of the floats that a light holds, of two files that agree on the registers read, and of every lighting that
-- `read` gives. Statements only.
use Rattle.std.specs.Prelude.{ℕ, ◌+◌, ◌≤◌, ◌<◌, ◌≡◌, List, true, length, get_or, Float, Option, None, Some}
use Rattle.vectors.specs.Claims.{Vector}
use Rattle.lighting.specs.Lighting.{blank_light}
use Rattle.lighting.specs.declared.Bump.{Bump}
use Rattle.lighting.specs.declared.Bump.TheVariants.{Flat, Normal, Tangent}
use Rattle.lighting.specs.declared.Light.{Light}
use Rattle.lighting.specs.declared.Lighting.{Lighting}
use Rattle.lighting.specs.declared.Lookup.{Lookup}
use Rattle.lighting.specs.declared.Shadow.{Shadow}
use Rattle.lighting.specs.Claims.{LightFits}
use Rattle.decoding.specs.Registers.{reg_enable, reg_lights, reg_disable, reg_table_absolute, reg_light_slots, register_of}
use Rattle.decoding.specs.Read.{scale_of}

-- ---- Files that agree on what is read

-- the files agree on 140 to 1C4 and on 1D9
pub record SameLights (f g : List ℕ) : Type 0 where
  pub blocks : (k : ℕ) → k < 133 → register_of f (reg_lights + k) ≡ register_of g (reg_lights + k)
  pub slots : register_of f reg_light_slots ≡ register_of g reg_light_slots

-- the files agree on each of the 139 registers
pub record SameKept (f g : List ℕ) : Type 0 where
  pub enable : register_of f reg_enable ≡ register_of g reg_enable
  pub lights : SameLights f g
  pub disable : register_of f reg_disable ≡ register_of g reg_disable
  pub tables : (k : ℕ) → k < 3 → register_of f (reg_table_absolute + k) ≡ register_of g (reg_table_absolute + k)

-- ---- What packing asks of a lighting, and what every lighting that `read` gives has

-- a scale is that of some code
pub record IsScale (x : Float) : Type 0 where
  pub code : ℕ
  pub small : code < 8
  pub is : x ≡ scale_of code

pub record LookupLimits (l : Lookup) : Type 0 where
  pub input : l.input < 8
  pub scale : IsScale l.scale

abbrev pub OptionalLookupLimits : Option Lookup → Type 0
OptionalLookupLimits None = Unit {0}
OptionalLookupLimits (Some l) = LookupLimits l

abbrev pub BumpLimits : Bump → Type 0
BumpLimits Flat = Unit {0}
BumpLimits (Normal unit rebuild) = unit ≤ 3
BumpLimits (Tangent unit) = unit ≤ 3

abbrev pub ShadowLimits : Option Shadow → Type 0
ShadowLimits None = Unit {0}
ShadowLimits (Some s) = s.unit ≤ 3

-- the light of each slot, whatever `get_or` takes past the end
pub record LightLimits (l : Lighting) (s : ℕ) (d : Light) : Type 0 where
  pub fits : LightFits (get_or l.lights s d)
  pub number : (get_or l.lights s d).number.0 ≤ 7
  pub blank : l.light_count ≤ s → get_or l.lights s d ≡ blank_light

-- the whole lighting
pub record Limits (l : Lighting) : Type 0 where
  pub eight : length l.lights ≡ 8
  pub lights : (s : ℕ) (d : Light) → s < 8 → LightLimits l s d
  pub some : 1 ≤ l.light_count
  pub few : l.light_count ≤ 8
  pub ambient : Vector l.global_ambient
  pub config : l.config ≤ 15
  pub distribution0 : OptionalLookupLimits l.distribution0
  pub distribution1 : OptionalLookupLimits l.distribution1
  pub fresnel : OptionalLookupLimits l.fresnel
  pub red : OptionalLookupLimits l.reflect_red
  pub green : OptionalLookupLimits l.reflect_green
  pub blue : OptionalLookupLimits l.reflect_blue
  pub spotlight : LookupLimits l.spotlight
  pub half_view : l.needs_half ≡ true → l.needs_view ≡ true
  pub bump : BumpLimits l.bump
  pub shadow : ShadowLimits l.shadow
