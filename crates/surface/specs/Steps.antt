-- What the code computes of a fragment's surface, step by step; nobody has to trust it: `shade_law` (ShadeLaws of shading) ties it to Shade. Definitions only.
use Rattle.std.specs.Prelude.{ℕ, List, [], ◌∷◌, Bool, cond, not, ◌||◌, eqb, Float, Option, None, Some}
use Rattle.std.specs.Float.Ieee.{lt, neg}
use Rattle.binary32.specs.Binary32.{float0, float1, max_of}
use Rattle.root.specs.Root.{root_of}
use Rattle.vectors.specs.Vectors.{at, ◌⊕◌, ◌⊖◌, ◌⊗◌, ◌⊘◌, two, normalized_of, rotate_of, dot_of, plus_of}
use Rattle.lighting.specs.Lighting.{zero_vector, is_scaled}
use Rattle.lighting.specs.declared.Bump.{Bump}
use Rattle.lighting.specs.declared.Bump.TheVariants.{Flat, Normal, Tangent}
use Rattle.lighting.specs.declared.Shadow.{Shadow}
use Rattle.lighting.specs.declared.Light.{Light}
use Rattle.surface.specs.declared.Frame.{Frame}
use Rattle.surface.specs.declared.Ray.{Ray}
use Rattle.surface.specs.declared.Directions.{Directions}

-- ---- the surface before it is turned, from the texel of the bump's unit

unfoldable pub perturbed : List Float → List Float
perturbed t = at t 0 ⊗ two ⊖ float1 ∷ at t 1 ⊗ two ⊖ float1 ∷ at t 2 ⊗ two ⊖ float1 ∷ []

-- z from x and y, so that the normal is a unit vector
unfoldable pub rebuilt_z : List Float → Float
rebuilt_z n = root_of (max_of (float1 ⊖ (at n 0 ⊗ at n 0 ⊕ at n 1 ⊗ at n 1)) float0)

unfoldable pub rebuilt : Bool → List Float → List Float
rebuilt rebuild n = cond rebuild (at n 0 ∷ at n 1 ∷ rebuilt_z n ∷ []) n

unfoldable pub surface_normal : Bump → List Float → List Float
surface_normal Flat texel = float0 ∷ float0 ∷ float1 ∷ []
surface_normal (Normal unit rebuild) texel = rebuilt rebuild (perturbed texel)
surface_normal (Tangent unit) texel = float0 ∷ float0 ∷ float1 ∷ []

unfoldable pub surface_tangent : Bump → List Float → List Float
surface_tangent Flat texel = float1 ∷ float0 ∷ float0 ∷ []
surface_tangent (Normal unit rebuild) texel = float1 ∷ float0 ∷ float0 ∷ []
surface_tangent (Tangent unit) texel = perturbed texel

-- ---- what every light sees of the fragment

unfoldable pub quaternion_norm : List Float → Float
quaternion_norm q = root_of (at q 0 ⊗ at q 0 ⊕ at q 1 ⊗ at q 1 ⊕ at q 2 ⊗ at q 2 ⊕ at q 3 ⊗ at q 3)

-- a norm that isn't above zero, or is NaN, gives 0, 0, 0, 1
unfoldable pub quaternion_over : List Float → Float → List Float
quaternion_over q norm =
    cond (lt float0 norm)
    (at q 0 ⊘ norm ∷ at q 1 ⊘ norm ∷ at q 2 ⊘ norm ∷ at q 3 ⊘ norm ∷ [])
    (float0 ∷ float0 ∷ float0 ∷ float1 ∷ [])

unfoldable pub unit_quaternion : List Float → List Float
unit_quaternion q = quaternion_over q (quaternion_norm q)

-- only configuration 8 has a table that reads the tangent
unfoldable pub tangent_of : ℕ → List Float → List Float → List Float
tangent_of config quaternion tangent = cond (eqb config 8) (rotate_of quaternion tangent) tangent

-- a vector that nothing reads is left at zero
unfoldable pub unit_if : Bool → List Float → List Float
unit_if needed v = cond needed (normalized_of v) zero_vector

-- of a unit quaternion
abbrev pub frame_by : Bump → List Float → ℕ → Bool → List Float → List Float → Frame
frame_by bump texel config needed unit view =
    record {
      normal = rotate_of unit (surface_normal bump texel);
      tangent = tangent_of config unit (surface_tangent bump texel);
      view = view;
      norm_view = unit_if needed view;
    }

unfoldable pub frame_of : Bump → List Float → ℕ → Bool → List Float → List Float → Frame
frame_of bump texel config needed quaternion view = frame_by bump texel config needed (unit_quaternion quaternion) view

-- ---- the shadow, from the texel of its unit

unfoldable pub inverted : Bool → List Float → List Float
inverted invert t =
    cond invert (float1 ⊖ at t 0 ∷ float1 ⊖ at t 1 ∷ float1 ⊖ at t 2 ∷ float1 ⊖ at t 3 ∷ []) t

unfoldable pub shadow_texel : Option Shadow → List Float → List Float
shadow_texel None texel = float1 ∷ float1 ∷ float1 ∷ float1 ∷ []
shadow_texel (Some shadow) texel = inverted shadow.invert texel

-- ---- the ray to a light

unfoldable pub light_vector : Light → List Float → List Float
light_vector light view =
    cond light.directional light.direction (normalized_of (plus_of light.position view))

unfoldable pub norm_if : Bool → List Float → Float
norm_if needed v = cond needed (root_of (dot_of v v)) float0

-- a directional light without a distance reads no norm
unfoldable pub ray_to : Light → List Float → Ray
ray_to light view =
    record {
      vector = light_vector light view;
      norm = norm_if (not light.directional || is_scaled light.distance) (plus_of light.position view);
    }

-- where a distance is read, that norm is the norm of −view − position (RayLaws)
unfoldable pub offset_of : List Float → List Float → List Float
offset_of view position =
    neg (at view 0) ⊖ at position 0 ∷ neg (at view 1) ⊖ at position 1 ∷ neg (at view 2) ⊖ at position 2 ∷ []

unfoldable pub offset_norm : List Float → List Float → Float
offset_norm view position = root_of (dot_of (offset_of view position) (offset_of view position))

-- ---- the directions that it gives

unfoldable pub half_of : Bool → List Float → List Float → List Float
half_of needed normView light_vector = cond needed (plus_of normView light_vector) zero_vector

abbrev pub directions_by : List Float → Frame → Bool → Directions
directions_by light_vector frame needed = record { light_vector = light_vector; half = half_of needed frame.norm_view light_vector }

unfoldable pub directions_of : Light → Frame → Bool → Directions
directions_of light frame needed = directions_by (light_vector light frame.view) frame needed
