-- Every decoded lighting that is on is packed, and its block reads back as the lighting: it lies within the limits that packing asks for.
-- Assumes nothing.
use Rattle.std.specs.Prelude.{ℕ, ◌≤◌, ◌≡◌, refl, List, Bool, true, false, not, ◌||◌, T, length, Float, Option, None, Some}
use Rattle.std.proofs.Common.{arith, ◌∙◌}
use Rattle.std.proofs.lemmas.List.{length-replicate}
use Rattle.std.specs.Float.{binary32}
use Rattle.std.specs.Float.Ieee.{fits, of_bits, to_bits}
use borrow.Author.Tests.{lt-ltb, le-leb}
use Rattle.std.proofs.lemmas.Bool.{and_parts}
use Rattle.binary32.specs.Binary32.{word_of}
use Rattle.lighting.specs.declared.Lookup.{Lookup}
use Rattle.lighting.specs.declared.Bump.{Bump}
use Rattle.lighting.specs.declared.Bump.TheVariants.{Flat, Normal, Tangent}
use Rattle.lighting.specs.declared.Shadow.{Shadow}
use Rattle.lighting.specs.declared.Lighting.{Lighting}
use Rattle.lighting.specs.Claims.{LookupFits, LightingFits}
use Rattle.decoding.specs.Claims.{IsScale, LookupLimits, OptionalLookupLimits, BumpLimits, ShadowLimits, Limits}
use Rattle.decoding.specs.Read.{read}
use Rattle.decoding.proofs.DecodeLaws.{read_either}
use Rattle.lighting.specs.Lighting.{no_light, light_at, bump_unit, shadow_unit, numbers_fit, in_range}
use Rattle.decoding.proofs.LimitLaws.{scale_each, scale_fits}
use Rattle.block.specs.Block.{packed, words, all_zero, scale_formed, well_formed, block_reading, accepted, packed_reading}
use Rattle.block.specs.Steps.{lookup_acceptable, optional_lookup_acceptable, acceptable}
use Rattle.block.specs.Claims.{BlankBeyond}
use Rattle.block.specs.TestLaws.{◌also◌, or_second, every_of}
use Rattle.block.specs.ListLaws.{length-packed}
use Rattle.block.proofs.PackedLaws.{packed_reads}
use Rattle.unit.specs.Unit.{packable}
use Rattle.block.proofs.AcceptedLaws.{accepted_is}
use Rattle.block.proofs.OffLaws.{zero_block}

scale_held : (x : Float) → IsScale x → T (fits binary32 x)
scale_held x h = rw h.is (scale_fits h.code)

lookup_held : (o : Option Lookup) → OptionalLookupLimits o → LookupFits o
lookup_held None h = tt
lookup_held (Some l) h = scale_held l.scale h.scale

scale_formed_lem : (x : Float) → IsScale x → scale_formed (word_of x) ≡ true
unfolding scale_formed to_bits of_bits
scale_formed_lem x h =
    rw h.is (scale_each (λ (y : Float). scale_formed (word_of y) ≡ true) refl refl refl refl refl refl refl h.code)

lookup_acceptable_lem : (l : Lookup) → LookupLimits l → lookup_acceptable l ≡ true
unfolding lookup_acceptable
lookup_acceptable_lem l h = lt-ltb l.input 8 h.input also scale_formed_lem l.scale h.scale

optional_acceptable : (o : Option Lookup) → OptionalLookupLimits o → optional_lookup_acceptable o ≡ true
unfolding optional_lookup_acceptable
optional_acceptable None h = refl
optional_acceptable (Some l) h = lookup_acceptable_lem l h

bump_unit_lem : (b : Bump) → BumpLimits b → bump_unit b ≤ 3
unfolding bump_unit
bump_unit_lem Flat h = omega arith
bump_unit_lem (Normal unit rebuild) h = h
bump_unit_lem (Tangent unit) h = h

shadow_unit_lem : (s : Option Shadow) → ShadowLimits s → shadow_unit s ≤ 3
unfolding shadow_unit
shadow_unit_lem None h = omega arith
shadow_unit_lem (Some s) h = h

half_view : (a b : Bool) → (a ≡ true → b ≡ true) → (not a || b) ≡ true
half_view true b h = h refl
half_view false b h = refl

module _ (l : Lighting) (h : Limits l) where
  limits_held : LightingFits l
  unfolding light_at
  limits_held =
      record {
        lights = λ s p. (h.lights s no_light p).fits;
        ambient = h.ambient;
        distribution0 = lookup_held l.distribution0 h.distribution0;
        distribution1 = lookup_held l.distribution1 h.distribution1;
        fresnel = lookup_held l.fresnel h.fresnel;
        red = lookup_held l.reflect_red h.red;
        green = lookup_held l.reflect_green h.green;
        blue = lookup_held l.reflect_blue h.blue;
        spotlight = scale_held l.spotlight.scale h.spotlight.scale;
      }

  limits_range : in_range l ≡ true
  unfolding in_range numbers_fit light_at
  limits_range =
      le-leb (bump_unit l.bump) 3 (bump_unit_lem l.bump h.bump)
      also le-leb (shadow_unit l.shadow) 3 (shadow_unit_lem l.shadow h.shadow)
      also le-leb 1 l.light_count h.some
      also le-leb l.light_count 8 h.few
      also every_of l.light_count _ (λ s p. le-leb _ 7 (h.lights s no_light (omega arith)).number)

  limits_blank : BlankBeyond l
  unfolding light_at
  limits_blank s p k = (h.lights s no_light p).blank k

  limits_accepted : accepted l ≡ true
  unfolding acceptable
  limits_accepted =
      accepted_is l limits_held
      ∙ (lt-ltb l.config 16 (omega arith)
      also optional_acceptable l.distribution0 h.distribution0
      also optional_acceptable l.distribution1 h.distribution1
      also optional_acceptable l.fresnel h.fresnel
      also optional_acceptable l.reflect_red h.red
      also optional_acceptable l.reflect_green h.green
      also optional_acceptable l.reflect_blue h.blue
      also lookup_acceptable_lem l.spotlight h.spotlight
      also half_view l.needs_half l.needs_view h.half_view
      also limits_range)

pub decoded_packable : (f : List ℕ) → packable (read f) ≡ true
unfolding packable
decoded_packable f = read_either (λ (d : Option Lighting). packable d ≡ true) f limits_accepted refl

-- the block of a lighting that is packed, or off, is off or well formed
pub packed_formed : (d : Option Lighting) → packable d ≡ true → (all_zero (words (packed_reading d)) || well_formed (words (packed_reading d))) ≡ true
unfolding packable packed_reading accepted
packed_formed None h = rw zero_block refl
packed_formed (Some l) h =
    or_second (all_zero (words (packed l))) (well_formed (words (packed l))) (and_parts (in_range l) (well_formed (words (packed l))) h).1

-- the block of a file's lighting reads as that lighting
pub decoded_reads : (f : List ℕ) → block_reading (words (packed_reading (read f))) ≡ read f
unfolding packed_reading block_reading
decoded_reads f =
    read_either (λ (d : Option Lighting). block_reading (words (packed_reading d)) ≡ d) f
    (λ l h. packed_reads l h.eight (limits_held l h) (limits_range l h) (limits_blank l h))
    (rw zero_block refl)

pub packed_length : (d : Option Lighting) → length (packed_reading d) ≡ 328
unfolding packed_reading
packed_length None = length-replicate {A = ℕ} 328 0
packed_length (Some l) = length-packed l
