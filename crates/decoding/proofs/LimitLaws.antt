-- The lighting of every register file lies within the limits that packing asks for: each field is cut out of a word by its width, each scale comes out of the codes' table, and each float is the result of an operation that rounds to binary32. Assumes nothing.
use Rattle.std.specs.Prelude.{ℕ, zero, suc, ◌*◌, ◌≤◌, ◌<◌, ◌≡◌, refl, Bool, true, false, not, cond, ◌&&◌, List, T, eqb, get_or, Float, None, Some}
use Rattle.std.proofs.Common.{arith}
use Rattle.std.specs.Float.{binary32}
use Rattle.std.specs.Float.Ieee.{of_int, of_bits, div, fits}
use Rattle.std.specs.Float.Ieee.Bits.{of_bits-fits}
use Rattle.lighting.specs.declared.Bump.TheVariants.{Flat, Normal, Tangent}
use Rattle.lighting.specs.declared.Shadow.{Shadow}
use Rattle.lighting.specs.declared.Light.{Light}
use Rattle.decoding.specs.Registers.{reg_config1, reg_table_scale, register_of, bits_of, flag_of}
use Rattle.decoding.specs.Read.{config, supported, scale_of, lookup, table, bump, shadow}
use Rattle.decoding.specs.Steps.{lights_of, slot_light, lookups_of, needs_half, needs_view, lighting_of}
use Rattle.decoding.proofs.LightLaws.{count_low, count_high, config_lt, lights_length, light_at_lem, blank_beyond, slot_number_lt, slot_fits, colour_vector}
use Rattle.decoding.specs.Claims.{LookupLimits, OptionalLookupLimits, BumpLimits, ShadowLimits, LightLimits, Limits}

-- what holds of 1, 2, 4, 8, 0, 0.25 and 0.5 holds of every code's scale
pub scale_each : (P : Float → Type 0)
    → P (of_bits binary32 0x3F800000)
    → P (of_bits binary32 0x40000000)
    → P (of_bits binary32 0x40800000)
    → P (of_bits binary32 0x41000000)
    → P (of_bits binary32 0)
    → P (of_bits binary32 0x3E800000)
    → P (of_bits binary32 0x3F000000)
    → (code : ℕ)
    → P (scale_of code)
unfolding scale_of of_int of_bits div
scale_each P one two four eight none quarter half zero = one
scale_each P one two four eight none quarter half (suc zero) = two
scale_each P one two four eight none quarter half (suc (suc zero)) = four
scale_each P one two four eight none quarter half (suc (suc (suc zero))) = eight
scale_each P one two four eight none quarter half (suc (suc (suc (suc zero)))) = none
scale_each P one two four eight none quarter half (suc (suc (suc (suc (suc zero))))) = none
scale_each P one two four eight none quarter half (suc (suc (suc (suc (suc (suc zero)))))) = quarter
scale_each P one two four eight none quarter half (suc (suc (suc (suc (suc (suc (suc zero))))))) = half
scale_each P one two four eight none quarter half (suc (suc (suc (suc (suc (suc (suc (suc code)))))))) = none

pub scale_fits : (code : ℕ) → T (fits binary32 (scale_of code))
scale_fits =
    scale_each (λ (x : Float). T (fits binary32 x))
    (of_bits-fits binary32 _)
    (of_bits-fits binary32 _)
    (of_bits-fits binary32 _)
    (of_bits-fits binary32 _)
    (of_bits-fits binary32 _)
    (of_bits-fits binary32 _)
    (of_bits-fits binary32 _)

lookup_limits : (f : List ℕ) (field : ℕ) → LookupLimits (lookup f field)
unfolding lookup
lookup_limits f field =
    record {
      input = omega arith;
      scale = record { code = bits_of (register_of f reg_table_scale) (field * 4) 3; small = omega arith; is = refl };
    }

table_limits : (f : List ℕ) (number disabled field : ℕ) → OptionalLookupLimits (table f number disabled field)
unfolding table
table_limits f number disabled field = go (not (flag_of (register_of f reg_config1) disabled) && supported (config f) number)
  where
    go : (b : Bool) → OptionalLookupLimits (cond b (Some (lookup f field)) None)
    go true = lookup_limits f field
    go false = tt

bump_limits : (w : ℕ) → BumpLimits (bump w)
unfolding bump
bump_limits w = go (eqb (bits_of w 28 2) 1) (eqb (bits_of w 28 2) 2)
  where
    go : (a b : Bool) → BumpLimits (cond a (Normal (bits_of w 22 2) (not (flag_of w 30))) (cond b (Tangent (bits_of w 22 2)) Flat))
    go true b = omega arith
    go false true = omega arith
    go false false = tt

shadow_limits : (w : ℕ) → ShadowLimits (shadow w)
unfolding shadow
shadow_limits w = go (flag_of w 0) _ (omega arith)
  where
    go : (b : Bool) (s : Shadow) → s.unit ≤ 3 → ShadowLimits (cond b (Some s) None)
    go true s h = h
    go false s h = tt

half_needs_view : (f : List ℕ) → needs_half f ≡ true → needs_view f ≡ true
unfolding needs_view
half_needs_view f e = rw e refl

light_limits : (f : List ℕ) (s : ℕ) (d : Light) → s < 8 → LightLimits (lighting_of f) s d
unfolding lighting_of
light_limits f s d h =
    let e : get_or (lights_of f) s d ≡ slot_light f (record { 0 = s }) = light_at_lem f s d h in
    record {
      fits = rw e (slot_fits f (record { 0 = s }));
      number = rw e (omega (arith, slot_number_lt f (record { 0 = s })));
      blank = λ k. rw e (blank_beyond f (record { 0 = s }) k);
    }

pub lighting_limits : (f : List ℕ) → Limits (lighting_of f)
unfolding lighting_of lookups_of
lighting_limits f =
    record {
      eight = lights_length f;
      lights = light_limits f;
      some = count_low f;
      few = count_high f;
      ambient = colour_vector _;
      config = omega (arith, config_lt f);
      distribution0 = table_limits f _ _ _;
      distribution1 = table_limits f _ _ _;
      fresnel = table_limits f _ _ _;
      red = table_limits f _ _ _;
      green = table_limits f _ _ _;
      blue = table_limits f _ _ _;
      spotlight = lookup_limits f _;
      half_view = half_needs_view f;
      bump = bump_limits _;
      shadow = shadow_limits _;
    }
