-- The colours that the definition gives in four scenes. Registers, tables and fragment are closed, so both sides of each equation compute to the
-- same eight numbers. Assumes nothing.
use Prim.Native.Nat.{ℕ}
use mathlib.Core.Path.{◌≡◌, refl}
use mathlib.Core.List.{List, [], ◌∷◌}
use lib.ListN.{set, replicate}
use lib.Ieee.{neg, add, sub, mul, div, lt, eq, is_nan, of_int, of_bits, to_unsigned, to_signed}
use Rattle.root.specs.Root.{root_of}
use Rattle.binary32.specs.Binary32.{magnitude_of, before, max_of, min_of, clamp_of, floor_of, unsigned_place_of, quantized_of, channel_of}
use Rattle.fields.specs.Fields.{colour_channel, colour_field, colour_of, signed13, fixed_of, short_exponent, short_sign, short_word, short_float}
use Rattle.vectors.specs.Vectors.{plus_of, times_of, over_of, dot_of, cross_of, normalized_of, axis_of, turn_of, plus_twice, rotate_of}
use Rattle.vectors.specs.Steps.{minus_of}
use Rattle.tables.specs.Tables.{interpolated, table_lookup}
use Rattle.lighting.specs.Lighting.{blank_light, light_at}
use Rattle.decoding.specs.Read.{flatten, supported, scale_of, bump, shadow, config, lookup, table, light_count, light_number, light, lighting, read}
use Rattle.shading.specs.Shade.{map_or, is_some_and, shadow_of as shadow_taken, bumped, surface_normal_of, surface_tangent_of, lookup_at, distance_of as distance_taken, sided, value_of, results_of, with_light, with_lights, shade}
use Rattle.block_shading.specs.BlockShading.{float_at, four_at, quaternion_of, view_of, texels_of, eight_of, shaded_by}
use Rattle.lists.specs.Claim.{shade_from}

-- registers of a fresh unit, and its tables
abbrev pub fresh : List ℕ
fresh = replicate 474 0

abbrev pub empty : List ℕ
empty = replicate 12288 0

-- every word is the float 1
abbrev pub ones : List ℕ
ones = replicate 12288 0x3F80_0000

abbrev pub fragment : List ℕ
fragment = replicate 23 0

abbrev pub answer : List ℕ
answer = replicate 8 0

-- one light and no tables: 8F 1, 1C4 FFFFFFFF
abbrev pub dark : List ℕ
dark = set (set fresh 0x08F 1) 0x1C4 0xFFFF_FFFF

-- and a white global ambient: 1C0 FF3FCFF
abbrev pub bright : List ℕ
bright = set dark 0x1C0 0xFF3_FCFF

-- a white light at 0 0 1 that reads its falloff, and no other table: 8F 1, 142 FF3FCFF, 145 3C00, 1C4 FEFFFFFF
abbrev pub lantern : List ℕ
lantern = set (set (set (set fresh 0x08F 1) 0x142 0xFF3_FCFF) 0x145 0x3C00) 0x1C4 0xFEFF_FFFF

pub record Colours : Type 0 where
  pub black : (shade_from dark empty fragment answer).answer ≡ 0 ∷ 0 ∷ 0 ∷ 255 ∷ 0 ∷ 0 ∷ 0 ∷ 255 ∷ []
  pub white : (shade_from bright empty fragment answer).answer ≡ 255 ∷ 255 ∷ 255 ∷ 255 ∷ 0 ∷ 0 ∷ 0 ∷ 255 ∷ []
  pub unlit : (shade_from lantern empty fragment answer).answer ≡ 0 ∷ 0 ∷ 0 ∷ 255 ∷ 0 ∷ 0 ∷ 0 ∷ 255 ∷ []
  pub lit : (shade_from lantern ones fragment answer).answer ≡ 255 ∷ 255 ∷ 255 ∷ 255 ∷ 0 ∷ 0 ∷ 0 ∷ 255 ∷ []

pub colours : Colours
unfolding neg add sub mul div lt eq is_nan of_int of_bits to_unsigned to_signed root_of magnitude_of before max_of min_of clamp_of floor_of unsigned_place_of quantized_of channel_of colour_channel colour_field colour_of signed13 fixed_of short_exponent short_sign short_word short_float plus_of minus_of times_of over_of dot_of cross_of normalized_of axis_of turn_of plus_twice rotate_of interpolated table_lookup blank_light supported scale_of flatten bump shadow config lookup table light_count light_number light lighting read float_at four_at quaternion_of view_of texels_of eight_of shaded_by shade_from map_or is_some_and shadow_taken bumped surface_normal_of surface_tangent_of lookup_at distance_taken sided value_of results_of with_light with_lights shade light_at
colours = record { black = refl; white = refl; unlit = refl; lit = refl }
