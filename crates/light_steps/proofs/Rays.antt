-- What the ray to a light gives the rest of a step: its vector is the definition's, so both directions are, and its norm is that of −view − position where a
-- distance is read. A light without a geometric flag has the same terms with any half vector. Assumes nothing.
use Prim.Native.Nat.{ℕ}
use mathlib.Core.Path.{◌≡◌, refl, ap, ◌∙◌}
use mathlib.Core.List.{List}
use mathlib.Core.Bool.{Bool, true, false, ◌||◌}
use lib.Ieee.{Float}
use Rattle.std.specs.Prelude.{Option}
use Rattle.lighting.specs.declared.Light.{Light}
use Rattle.surface.specs.declared.Frame.{Frame}
use Rattle.surface.specs.declared.Directions.{Directions}
use Rattle.surface.specs.declared.Ray.{Ray}
use Rattle.light_steps.specs.declared.types.Reading.{Reading}
use Rattle.light_steps.specs.declared.types.Settings.{Settings}
use Rattle.light_steps.specs.declared.types.Sums.{Sums}
use Rattle.light_steps.specs.declared.types.Values.{Values}
use Rattle.light_steps.specs.Steps.{factor_of, distance_reading_by, read_value, distance_reading, specular_of, with_values_by, with_values, unread_directions}
use Rattle.surface.specs.Steps.{directions_by, directions_of, ray_to}
use Rattle.light_steps.specs.ReadingsLaws.{distance_by_lem}

pub directions_is : (light : Light) (frame : Frame) (needed : Bool) (ray : Ray) (directions : Directions)
    → ray ≡ ray_to light frame.view
    → directions ≡ directions_by ray.vector frame needed
    → directions ≡ directions_of light frame needed
unfolding directions_of ray_to
directions_is light frame needed ray directions w t = t ∙ ap (λ (x : Ray). directions_by x.vector frame needed) w

pub distance_is : (tables : List ℕ) (light : Light) (view : List Float) (ray : Ray) (d : Float)
    → ray ≡ ray_to light view
    → d ≡ read_value tables (distance_reading_by light.distance light.number ray.norm)
    → d ≡ read_value tables (distance_reading light view)
distance_is tables light view ray d w e =
    e
    ∙ ap (λ (x : Ray). read_value tables (distance_reading_by light.distance light.number x.norm)) w
    ∙ ap (λ (x : Option Reading). read_value tables x) (distance_by_lem light view)

pub unread_is : (sums : Sums) (light : Light) (normal vector : List Float) (frame : Frame) (needed : Bool) (v : Values) (settings : Settings) (last : Bool)
    → with_values sums light normal (unread_directions light vector frame needed) v settings last ≡ with_values sums light normal (directions_by vector frame needed) v settings last
unfolding with_values with_values_by specular_of factor_of unread_directions
unread_is sums light normal vector frame needed v settings last = go (light.geometric0 || light.geometric1) refl
  where
    go : (b : Bool) → (light.geometric0 || light.geometric1) ≡ b
        → with_values sums light normal (unread_directions light vector frame needed) v settings last ≡ with_values sums light normal (directions_by vector frame needed) v settings last
    go true e = rw e refl
    go false e = rw e refl
