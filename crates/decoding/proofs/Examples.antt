-- Cases of the law: document 01's whole case; the tables that a configuration has room for; the bits of the scale codes' floats; a light that is
-- in a slot of another number; and the three ways to no lighting. Each is closed, so both sides compute to the same value. Assumes nothing.
use Prim.Native.Nat.{ℕ}
use mathlib.Core.Path.{◌≡◌, refl}
use mathlib.Core.Bool.{true, false}
use mathlib.Core.List.{List, [], ◌∷◌, map}
use lib.ListN.{set, replicate, get_or}
use lib.IntN.{pos, negsuc}
use Rattle.std.specs.Prelude.{None, Some}
use lib.Ieee.{Float, binary32, add, mul, div, of_int, of_bits}
use Rattle.fields.specs.Fields.{colour_channel, colour_field, colour_of, signed13, fixed_of, short_exponent, short_sign, short_word, short_float}
use Rattle.root.specs.Root.{root_of}
use Rattle.vectors.specs.Vectors.{over_of, dot_of, normalized_of}
use Rattle.refusals.specs.Refusals.{file_refusal}
use Rattle.lighting.specs.Lighting.{zero_float, zero_vector, blank_light, off, on, table_distribution1, table_reflect_green, slot_of}
use Rattle.lighting.specs.declared.Bump.TheVariants.{Flat}
use Rattle.decoding.specs.Read.{flatten, supported, scale_of, bump, shadow, config, lookup, table, light_count, light_number, light, lighting, read, file_read_if, file_read}

-- ---- the whole case

abbrev fresh : List ℕ
fresh = replicate 474 0

-- 8F 1, 142 FF3FCFF, 145 3C00, 149 1, 1C4 FFFFFFFF
abbrev whole : List ℕ
whole = set (set (set (set (set fresh 0x08F 1) 0x142 0xFF3FCFF) 0x145 0x3C00) 0x149 1) 0x1C4 0xFFFFFFFF

abbrev one : Float
one = of_bits binary32 0x3F800000

-- one directional light, white, from straight ahead
whole-read : read whole ≡ on (record {
  lights =
      record {
        specular0 = zero_vector;
        specular1 = zero_vector;
        diffuse = one ∷ one ∷ one ∷ [];
        ambient = zero_vector;
        position = zero_float ∷ zero_float ∷ one ∷ [];
        direction = zero_float ∷ zero_float ∷ one ∷ [];
        spot = zero_vector;
        directional = true;
        two_sided = false;
        geometric0 = false;
        geometric1 = false;
        distance = None;
        spotlight = false;
        shadowed = false;
        number = record { 0 = 0 };
      }
      ∷ replicate 7 blank_light;
  light_count = 1;
  global_ambient = zero_vector;
  config = 0;
  distribution0 = None;
  distribution1 = None;
  fresnel = None;
  reflect_red = None;
  reflect_green = None;
  reflect_blue = None;
  spotlight = record { input = 0; absolute = true; scale = one };
  fresnel_primary = false;
  fresnel_secondary = false;
  clamp_highlights = false;
  needs_half = false;
  needs_view = false;
  bump = Flat;
  shadow = None;
})
unfolding read lighting light light_number light_count config supported table lookup scale_of flatten bump shadow blank_light colour_of colour_field colour_channel fixed_of signed13 short_float short_word short_sign short_exponent normalized_of over_of dot_of root_of of_bits of_int add mul div
whole-read = refl

-- ---- the tables that a configuration has room for

distribution1_in_4 : supported 4 table_distribution1 ≡ true
unfolding supported
distribution1_in_4 = refl

green_in_6 : supported 6 table_reflect_green ≡ false
unfolding supported
green_in_6 = refl

-- ---- the scale codes

codes : map scale_of (0 ∷ 1 ∷ 2 ∷ 3 ∷ 4 ∷ 5 ∷ 6 ∷ 7 ∷ [])
    ≡ map (of_bits binary32) (0x3F800000 ∷ 0x40000000 ∷ 0x40800000 ∷ 0x41000000 ∷ 0 ∷ 0 ∷ 0x3E800000 ∷ 0x3F000000 ∷ [])
unfolding scale_of of_bits of_int div
codes = refl

-- ---- a light in a slot of another number

-- 1D9 30: slot 1 holds light 3
abbrev swapped : List ℕ
swapped = set fresh 0x1D9 0x30

slot_holds : (light swapped (slot_of 1)).number.0 ≡ 3
unfolding light light_number
slot_holds = refl

-- bit 27 of 1C4 takes the distance from light 3, whatever its slot; bit 25, light 1's, does not
distance_none : (light (set swapped 0x1C4 0x800_0000) (slot_of 1)).distance ≡ None
unfolding light light_number
distance_none = refl

-- 17A 3F000 and 17B BF000, in light 3's block: a bias of 1 and a scale of −1
distance_kept : (light (set (set (set swapped 0x1C4 0x200_0000) 0x17A 0x3F000) 0x17B 0xBF000) (slot_of 1)).distance ≡ Some (record { bias = of_int binary32 (pos 1); scale = of_int binary32 (negsuc 0) })
unfolding light light_number short_float short_word short_sign short_exponent of_bits of_int
distance_kept = refl

-- 174 40003C00 and 175 4200: 1, 2 and 3
position_order : (light (set (set swapped 0x174 0x4000_3C00) 0x175 0x4200) (slot_of 1)).position ≡ of_int binary32 (pos 1) ∷ of_int binary32 (pos 2) ∷ of_int binary32 (pos 3) ∷ []
unfolding light light_number short_float short_word short_sign short_exponent of_bits of_int
position_order = refl

-- 176 1FFF07FF: 1 and −1 / 2047
spot_order : (light (set swapped 0x176 0x1FFF_07FF) (slot_of 1)).spot ≡ of_int binary32 (pos 1) ∷ div binary32 (of_int binary32 (negsuc 0)) (of_int binary32 (pos 2047)) ∷ zero_float ∷ []
unfolding light light_number fixed_of signed13 of_bits of_int div
spot_order = refl

-- one light is on where 1C2 is 0, so slot 1 is blank
slot_blank : get_or (lighting swapped).lights 1 (light swapped (slot_of 1)) ≡ blank_light
unfolding lighting light_count
slot_blank = refl

-- ---- off

-- 8F 0 in the whole case
not_enabled : read (set whole 0x08F 0) ≡ off
unfolding read
not_enabled = refl

-- 1C6 1 in the whole case
disabled : read (set whole 0x1C6 1) ≡ off
unfolding read
disabled = refl

-- ---- a file of 473 words

short : file_read (replicate 473 1) ≡ record { number = 1; lighting = off }
unfolding file_read_if file_refusal
short = refl
