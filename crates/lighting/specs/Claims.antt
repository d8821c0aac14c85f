-- What the types of a lighting say: every float is a value of binary32, and every vector has three. Statements only.
use Rattle.std.specs.Prelude.{ℕ, ◌<◌, T, Option, None, Some}
use Rattle.std.specs.Float.{binary32}
use Rattle.std.specs.Float.Ieee.{fits}
use Rattle.vectors.specs.Claims.{Vector}
use Rattle.lighting.specs.declared.Lookup.{Lookup}
use Rattle.lighting.specs.declared.Distance.{Distance}
use Rattle.lighting.specs.declared.Light.{Light}
use Rattle.lighting.specs.declared.Lighting.{Lighting}
use Rattle.lighting.specs.Lighting.{slot_of, light_at}

abbrev pub DistanceFits : Option Distance → Type 0
DistanceFits None = Unit {0}
DistanceFits (Some distance) = T (fits binary32 distance.bias) × T (fits binary32 distance.scale)

pub record LightFits (l : Light) : Type 0 where
  pub specular0 : Vector l.specular0
  pub specular1 : Vector l.specular1
  pub diffuse : Vector l.diffuse
  pub ambient : Vector l.ambient
  pub position : Vector l.position
  pub direction : Vector l.direction
  pub spot : Vector l.spot
  pub distance : DistanceFits l.distance

abbrev pub LightsFit : Lighting → Type 0
LightsFit l = (s : ℕ) → s < 8 → LightFits (light_at l (slot_of s))

abbrev pub LookupFits : Option Lookup → Type 0
LookupFits None = Unit {0}
LookupFits (Some l) = T (fits binary32 l.scale)

pub record LightingFits (l : Lighting) : Type 0 where
  pub lights : LightsFit l
  pub ambient : Vector l.global_ambient
  pub distribution0 : LookupFits l.distribution0
  pub distribution1 : LookupFits l.distribution1
  pub fresnel : LookupFits l.fresnel
  pub red : LookupFits l.reflect_red
  pub green : LookupFits l.reflect_green
  pub blue : LookupFits l.reflect_blue
  pub spotlight : T (fits binary32 l.spotlight.scale)
