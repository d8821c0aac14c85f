-- The tables are read in three steps: where (`distance`, `readings`), what the entries there give (`entries`), and what is made of them (`values`).
-- The steps give the values of the lookups: each goes by the same cases. A light that reads no table but its distance table has 1 for every other value, and no fresnel is applied to it.
-- Assumes nothing.
use Rattle.std.specs.Prelude.{ℕ, ◌+◌, ◌<◌, ◌≡◌, List, Bool, cond, ◌&&◌, ◌||◌, Float, Option, None, Some, is_some}
use Rattle.std.proofs.Common.{arith, ap, ◌∙◌, true≢false}
use Rattle.std.proofs.Math.Path.{refl}
use Rattle.std.proofs.Math.Bool.{true, false, and-false}
use Rattle.std.proofs.lemmas.Bool.{or_parts}
use Rattle.binary32.specs.Binary32.{float1}
use Rattle.lighting.specs.declared.Light.{Light}
use Rattle.lighting.specs.declared.LightNumber.{LightNumber}
use Rattle.lighting.specs.declared.Lookup.{Lookup}
use Rattle.lighting.specs.declared.Distance.{Distance}
use Rattle.surface.specs.declared.Frame.{Frame}
use Rattle.surface.specs.declared.Directions.{Directions}
use Rattle.light_steps.specs.Steps.{table_for, reading_by, reading_if, spot_reading, fresnel_reading, readings_by, readings_of, read_value, read_all, distance_reading_by, reads_tables, scaled_if, spot_scaled, fresnel_scaled, values_from, unread, lookup_value, value_if, spot_value, fresnel_value, distance_by, distance_value, values_by, values_of, distance_reading}
use Rattle.surface.specs.Steps.{offset_norm, ray_to}
use Rattle.surface.specs.RayLaws.{norm_is}
use Rattle.lighting.specs.declared.TableLookups.{TableLookups}
use Rattle.light_steps.specs.declared.types.LightingLookups.{LightingLookups}
use Rattle.vectors.specs.Vectors.{◌⊗◌}
use Rattle.lighting.specs.Lighting.{table_fresnel}

table_is : (first : ℕ) (number : LightNumber) → number.0 < 8 → table_for first number ≡ first + number.0
unfolding table_for
table_is first number h = omega arith

missing : (k : Option Lookup) → is_some k ≡ false → k ≡ None
missing None h = refl
missing (Some lookup) h = absurd (true≢false h)

same : (b : Bool) → cond b float1 float1 ≡ float1
same true = refl
same false = refl

module _ (tables : List ℕ) where
  value_read : (table : ℕ) (k : Option Lookup) (twoSided : Bool) (inputs : List Float) (missing : Float)
      → scaled_if k (read_value tables (reading_if table k twoSided inputs)) missing ≡ value_if tables table k twoSided inputs missing
  unfolding scaled_if read_value reading_if reading_by value_if lookup_value
  value_read table None twoSided inputs missing = refl
  value_read table (Some k) twoSided inputs missing = refl

  fresnel_read : (last : Bool) (k : Option Lookup) (twoSided : Bool) (inputs : List Float)
      → fresnel_scaled last k (read_value tables (fresnel_reading last k twoSided inputs)) ≡ fresnel_value tables last k twoSided inputs
  unfolding fresnel_scaled fresnel_reading fresnel_value
  fresnel_read true k twoSided inputs = value_read table_fresnel k twoSided inputs float1
  fresnel_read false k twoSided inputs = refl

  picked : (on : Bool) (table : ℕ) (k : Lookup) (twoSided : Bool) (inputs : List Float)
      → cond on (k.scale ⊗ read_value tables (cond on (Some (reading_by table k twoSided inputs)) None)) float1
      ≡ cond on (lookup_value tables table k twoSided inputs) float1
  unfolding read_value reading_by lookup_value
  picked true table k twoSided inputs = refl
  picked false table k twoSided inputs = refl

  spot_read : (light : Light) (k : Lookup) (inputs : List Float)
      → light.number.0 < 8
      → spot_scaled light k (read_value tables (spot_reading light k inputs)) ≡ spot_value tables light k inputs
  unfolding spot_scaled spot_reading spot_value
  spot_read light k inputs h =
      rw (table_is 8 light.number h)
      (picked light.spotlight (8 + light.number.0) k light.two_sided inputs)

  distance_read_by : (d : Option Distance) (number : LightNumber) (norm : Float)
      → number.0 < 8
      → read_value tables (distance_reading_by d number norm) ≡ distance_by tables d number norm
  unfolding read_value distance_reading_by distance_by
  distance_read_by None number norm h = refl
  distance_read_by (Some distance) number norm h = rw (table_is 16 number h)

  pub distance_read : (light : Light) (view : List Float)
      → light.number.0 < 8
      → read_value tables (distance_reading light view) ≡ distance_value tables light view
  unfolding distance_reading distance_value
  distance_read light view h = distance_read_by light.distance light.number (offset_norm view light.position) h

  values_read : (lookups : TableLookups) (light : Light) (inputs : List Float) (distance : Float) (last : Bool)
      → light.number.0 < 8
      → values_from lookups light (read_all tables (readings_by lookups light inputs last) distance) last
      ≡ values_by tables lookups light inputs distance last
  unfolding values_from read_all readings_by values_by
  values_read lookups light inputs distance last h =
      simp (value_read, fresnel_read, spot_read light lookups.spotlight inputs h)

  values_unread : (lookups : TableLookups) (light : Light) (inputs : List Float) (distance : Float) (last : Bool)
      → reads_tables lookups light ≡ false
      → unread distance ≡ values_by tables lookups light inputs distance last
  unfolding reads_tables unread values_by value_if spot_value fresnel_value
  values_unread lookups light inputs distance last h =
      let g = or_parts _ light.spotlight h in
      let f = or_parts _ (is_some lookups.reflect_blue) g.0 in
      let e = or_parts _ (is_some lookups.reflect_green) f.0 in
      let d = or_parts _ (is_some lookups.reflect_red) e.0 in
      let c = or_parts _ (is_some lookups.fresnel) d.0 in
      let b = or_parts (is_some lookups.distribution0) (is_some lookups.distribution1) c.0 in
      simp
      (missing lookups.distribution0 b.0, missing lookups.distribution1 b.1, missing lookups.fresnel c.1, missing lookups.reflect_red d.1, missing lookups.reflect_green e.1, missing lookups.reflect_blue f.1, g.1, same last)

  -- the three steps, for a light that reads tables
  pub read_in_steps : (lookups : LightingLookups) (frame : Frame) (directions : Directions) (light : Light) (last : Bool)
      → light.number.0 < 8
      → values_from lookups.tables light (read_all tables (readings_of lookups frame directions light last) (read_value tables (distance_reading light frame.view))) last
      ≡ values_of tables lookups frame directions light last
  unfolding readings_of values_of
  read_in_steps lookups frame directions light last h =
      rw (distance_read light frame.view h) (values_read lookups.tables light _ _ last h)

  -- a light that reads none
  pub read_none : (lookups : LightingLookups) (frame : Frame) (directions : Directions) (light : Light) (last : Bool)
      → light.number.0 < 8
      → reads_tables lookups.tables light ≡ false
      → unread (read_value tables (distance_reading light frame.view)) ≡ values_of tables lookups frame directions light last
  unfolding values_of
  read_none lookups frame directions light last h r =
      rw (distance_read light frame.view h) (values_unread lookups.tables light _ _ last r)

third : (a b c d e f g : Bool) → (a || b || c || d || e || f || g) ≡ false → c ≡ false
third a b c d e f g h =
    let t = or_parts (a || b || c || d || e || f) g h in
    let u = or_parts (a || b || c || d || e) f t.0 in
    let v = or_parts (a || b || c || d) e u.0 in
    let w = or_parts (a || b || c) d v.0 in
    (or_parts (a || b) c w.0).1

-- fresnel is not applied to a light that reads none
pub none_applied : (lookups : TableLookups) (light : Light) (last : Bool) → reads_tables lookups light ≡ false → (last && is_some lookups.fresnel) ≡ false
unfolding reads_tables
none_applied lookups light last h =
    ap (λ (b : Bool). last && b)
    (third (is_some lookups.distribution0) (is_some lookups.distribution1) (is_some lookups.fresnel) (is_some lookups.reflect_red) (is_some lookups.reflect_green) (is_some lookups.reflect_blue) light.spotlight h)
    ∙ and-false last

-- a light's distance is read where the norm of the ray to it says
pub distance_by_lem : (light : Light) (view : List Float) → distance_reading_by light.distance light.number (ray_to light view).norm ≡ distance_reading light view
unfolding distance_reading distance_reading_by
distance_by_lem light view = go light.distance refl
  where
    go : (d : Option Distance) → light.distance ≡ d → distance_reading_by light.distance light.number (ray_to light view).norm ≡ distance_reading_by light.distance light.number (offset_norm view light.position)
    go None e = rw e refl
    go (Some distance) e = ap (λ (x : Float). distance_reading_by light.distance light.number x) (norm_is light view distance e)
