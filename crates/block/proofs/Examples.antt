-- The definitions at document 01's whole case, whose lighting has one directional light and no table, and at blocks that differ
-- from its block in a word. Each is computed. Assumes nothing.
use Prim.Native.Nat.{ℕ}
use mathlib.Core.Path.{◌≡◌, refl}
use mathlib.Core.List.{List, [], ◌∷◌, ◌++◌}
use mathlib.Core.Bool.{true, false}
use lib.ListN.{set, replicate}
use lib.Ieee.{Float, of_bits, to_bits}
use Rattle.std.specs.Prelude.{None}
use Rattle.binary32.specs.Binary32.{float_of}
use Rattle.lighting.specs.declared.Bump.TheVariants.{Flat}
use Rattle.lighting.specs.declared.Light.{Light}
use Rattle.lighting.specs.declared.Lighting.{Lighting}
use Rattle.lighting.specs.Forms.{every}
use Rattle.lighting.specs.Lighting.{zero_float, zero_vector, blank_light, is_scaled, light_at, on}
use Rattle.block.specs.declared.BlockForm.TheVariants.{Off, NotWellFormed, NanFree, WithNan}
use Rattle.block.specs.Block.{flag_word, bump_word, shadow_word, lookup_row, lookup_words, vector_words, head_words, distance_row, flags_word, light_words, slot_words, slots_words, packed, words, zeros, all_zero, each_lookup, each_lit, bump_formed, shadow_formed, scale_formed, padding_zero, is_number, float_formed, well_formed, block_bump, block_shadow, block_lookup, block_optional_lookup, block_vector, block_distance, block_light, block_slot_light, block_lights, block_lighting, block_reading, distance_words}
use Rattle.block.specs.Steps.{nan_free, form_of, block_form}

one : Float
one = float_of 0x3F80_0000

upward : List Float
upward = zero_float ∷ zero_float ∷ one ∷ []

light : Light
light =
    record {
      specular0 = zero_vector;
      specular1 = zero_vector;
      diffuse = one ∷ one ∷ one ∷ [];
      ambient = zero_vector;
      position = upward;
      direction = upward;
      spot = zero_vector;
      directional = true;
      two_sided = false;
      geometric0 = false;
      geometric1 = false;
      distance = None;
      spotlight = false;
      shadowed = false;
      number = record { 0 = 0 };
    }

whole : Lighting
whole =
    record {
      lights = light ∷ replicate 7 blank_light;
      light_count = 1;
      global_ambient = zero_vector;
      config = 0;
      distribution0 = None;
      distribution1 = None;
      fresnel = None;
      reflect_red = None;
      reflect_green = None;
      reflect_blue = None;
      spotlight = record { input = 0; absolute = true; scale = one };
      fresnel_primary = false;
      fresnel_secondary = false;
      clamp_highlights = false;
      needs_half = false;
      needs_view = false;
      bump = Flat;
      shadow = None;
    }

block : List ℕ
block =
    (0 ∷ 1 ∷ replicate 30 0)
    ++ (1 ∷ 0 ∷ 1 ∷ 0x3F80_0000 ∷ replicate 4 0)
    ++ replicate 8 0
    ++ (0x3F80_0000 ∷ 0x3F80_0000 ∷ 0x3F80_0000 ∷ replicate 5 0)
    ++ (0 ∷ 0 ∷ 0x3F80_0000 ∷ 0 ∷ 0 ∷ 0 ∷ 0x3F80_0000 ∷ 0 ∷ replicate 8 0)
    ++ (1 ∷ replicate 3 0)
    ++ replicate 252 0

whole_packs : packed whole ≡ block
unfolding to_bits of_bits whole light one upward block blank_light flag_word bump_word shadow_word lookup_row lookup_words vector_words head_words distance_row is_scaled flags_word light_words distance_words light_at slot_words slots_words packed
whole_packs = refl

whole_reads : block_reading (words block) ≡ on whole
unfolding whole light one upward block every zeros all_zero block_bump block_shadow block_lookup block_optional_lookup block_vector block_distance block_light block_slot_light block_lights block_lighting block_reading blank_light
whole_reads = refl

-- the form of the block, and of blocks with a word changed
forms :
    (block_form block ≡ NanFree)
    × (block_form (replicate 328 0) ≡ Off)
    × (block_form (replicate 327 0) ≡ NotWellFormed)
    × (block_form (set (replicate 328 0) 327 1) ≡ NotWellFormed)
    × (block_form (set block 1 9) ≡ NotWellFormed)
    × (block_form (set block 0 16) ≡ NotWellFormed)
    × (block_form (set block 2 305) ≡ NanFree)
    × (block_form (set block 2 306) ≡ NotWellFormed)
    × (block_form (set block 7 1) ≡ NotWellFormed)
    × (block_form (set block 11 0x3F80_0000) ≡ NotWellFormed)
    × (block_form (set block 36 0x7FC0_0000) ≡ WithNan)
    × (block_form (set block 36 0xFFC0_0000) ≡ NotWellFormed)
    × (block_form (set block 68 0x3F80_0000) ≡ NotWellFormed)
    × (block_form (set block 76 1) ≡ NotWellFormed)
unfolding block every zeros all_zero each_lookup each_lit bump_formed shadow_formed scale_formed padding_zero is_number float_formed well_formed nan_free form_of block_form
forms = (refl, refl, refl, refl, refl, refl, refl, refl, refl, refl, refl, refl, refl, refl)
