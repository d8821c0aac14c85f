-- The definitions at the cases that the papers and IEEE 754 name, computed.
-- Assumes nothing.
use mathlib.Core.Path.{◌≡◌, refl}
use mathlib.Core.Bool.{true, false}
use lib.IntN.{pos}
use lib.Ieee.{nan, inf, fin, round, sub, mul, div, lt, eq, is_nan, of_int, to_unsigned, to_signed, of_bits, to_bits}
use Rattle.binary32.specs.Binary32.{float_of, word_of, float0, float1, float127, float128, float255, float256, minus128, magnitude_of, before, max_of, min_of, clamp_of, floor_of, unsigned_place_of, signed_place_of, quantized_of, channel_of}

-- ---- words
nan_word : word_of (float_of 0xffc0_0001) ≡ 0x7fc0_0000
unfolding of_bits to_bits
nan_word = refl

minus_zero_word : word_of (float_of 0x8000_0000) ≡ 0x8000_0000
unfolding of_bits to_bits
minus_zero_word = refl

-- ---- numbers
number0 : float0 ≡ fin false 0 (pos 0)
unfolding of_bits
number0 = refl

number1 : float1 ≡ fin false 1 (pos 0)
unfolding of_bits
number1 = refl

number127 : float127 ≡ fin false 127 (pos 0)
unfolding of_bits
number127 = refl

number128 : float128 ≡ fin false 1 (pos 7)
unfolding of_bits
number128 = refl

number255 : float255 ≡ fin false 255 (pos 0)
unfolding of_bits
number255 = refl

number256 : float256 ≡ fin false 1 (pos 8)
unfolding of_bits
number256 = refl

number_minus128 : minus128 ≡ fin true 1 (pos 7)
unfolding of_bits
number_minus128 = refl

-- ---- order: 80000000 is −0
magnitude_of_minus_zero : magnitude_of (float_of 0x8000_0000) ≡ float0
unfolding magnitude_of of_bits
magnitude_of_minus_zero = refl

max_of_zeros : max_of (float_of 0x8000_0000) float0 ≡ float0
unfolding max_of before is_nan lt eq of_bits
max_of_zeros = refl

max_of_zeros_turned : max_of float0 (float_of 0x8000_0000) ≡ float0
unfolding max_of before is_nan lt eq of_bits
max_of_zeros_turned = refl

min_of_zeros : min_of (float_of 0x8000_0000) float0 ≡ float_of 0x8000_0000
unfolding min_of before is_nan lt eq of_bits
min_of_zeros = refl

min_of_zeros_turned : min_of float0 (float_of 0x8000_0000) ≡ float_of 0x8000_0000
unfolding min_of before is_nan lt eq of_bits
min_of_zeros_turned = refl

max_of_nan : max_of nan minus128 ≡ minus128
unfolding max_of is_nan
max_of_nan = refl

max_of_nan_turned : max_of minus128 nan ≡ minus128
unfolding max_of before is_nan lt eq of_bits
max_of_nan_turned = refl

min_of_nans : min_of nan nan ≡ nan
unfolding min_of is_nan
min_of_nans = refl

clamp_of_nan : clamp_of nan float0 float1 ≡ nan
unfolding clamp_of lt of_bits
clamp_of_nan = refl

clamp_of_minus_zero : clamp_of (float_of 0x8000_0000) float0 float1 ≡ float_of 0x8000_0000
unfolding clamp_of lt of_bits
clamp_of_minus_zero = refl

-- ---- floor: −0.5, −0, 2.75, −2.75, the largest float
floor_of_minus_half : floor_of (float_of 0xbf00_0000) ≡ float_of 0xbf80_0000
unfolding floor_of round of_bits
floor_of_minus_half = refl

floor_of_minus_zero : floor_of (float_of 0x8000_0000) ≡ float_of 0x8000_0000
unfolding floor_of round of_bits
floor_of_minus_zero = refl

floor_of_2_75 : floor_of (float_of 0x4030_0000) ≡ float_of 0x4000_0000
unfolding floor_of round of_bits
floor_of_2_75 = refl

floor_of_minus_2_75 : floor_of (float_of 0xc030_0000) ≡ float_of 0xc040_0000
unfolding floor_of round of_bits
floor_of_minus_2_75 = refl

floor_of_largest : floor_of (float_of 0x7f7f_ffff) ≡ float_of 0x7f7f_ffff
unfolding floor_of round of_bits
floor_of_largest = refl

-- ---- places
unsigned_at_minus_zero : unsigned_place_of (float_of 0x8000_0000) ≡ record { entry = 0; delta = float0 }
unfolding unsigned_place_of to_unsigned sub clamp_of lt floor_of mul of_bits
unsigned_at_minus_zero = refl

unsigned_at_nan : unsigned_place_of nan ≡ record { entry = 0; delta = nan }
unfolding unsigned_place_of to_unsigned sub clamp_of lt floor_of mul of_bits
unsigned_at_nan = refl

unsigned_at_infinity : unsigned_place_of (inf false) ≡ record { entry = 255; delta = inf false }
unfolding unsigned_place_of to_unsigned sub clamp_of lt floor_of mul of_bits
unsigned_at_infinity = refl

unsigned_at_minus_infinity : unsigned_place_of (inf true) ≡ record { entry = 0; delta = inf true }
unfolding unsigned_place_of to_unsigned sub clamp_of lt floor_of mul of_bits
unsigned_at_minus_infinity = refl

signed_at_minus_1 : signed_place_of (float_of 0xbf80_0000) ≡ record { entry = 128; delta = float0 }
unfolding signed_place_of to_signed sub clamp_of lt floor_of mul of_bits
signed_at_minus_1 = refl

-- −1 / 256 reads entry 255, half way to the next
signed_at_minus_256th : signed_place_of (float_of 0xbb80_0000) ≡ record { entry = 255; delta = float_of 0x3f00_0000 }
unfolding signed_place_of to_signed sub clamp_of lt floor_of mul of_bits
signed_at_minus_256th = refl

signed_at_1 : signed_place_of float1 ≡ record { entry = 127; delta = float1 }
unfolding signed_place_of to_signed sub clamp_of lt floor_of mul of_bits
signed_at_1 = refl

signed_at_minus_zero : signed_place_of (float_of 0x8000_0000) ≡ record { entry = 0; delta = float0 }
unfolding signed_place_of to_signed sub clamp_of lt floor_of mul of_bits
signed_at_minus_zero = refl

signed_at_nan : signed_place_of nan ≡ record { entry = 0; delta = nan }
unfolding signed_place_of to_signed sub clamp_of lt floor_of mul of_bits
signed_at_nan = refl

signed_at_infinity : signed_place_of (inf false) ≡ record { entry = 127; delta = inf false }
unfolding signed_place_of to_signed sub clamp_of lt floor_of mul of_bits
signed_at_infinity = refl

signed_at_minus_infinity : signed_place_of (inf true) ≡ record { entry = 128; delta = inf true }
unfolding signed_place_of to_signed sub clamp_of lt floor_of mul of_bits
signed_at_minus_infinity = refl

-- ---- quantising
quantized_half : quantized_of (float_of 0x3f00_0000) ≡ 127
unfolding quantized_of to_unsigned mul clamp_of lt of_bits
quantized_half = refl

quantized_nan : quantized_of nan ≡ 0
unfolding quantized_of to_unsigned mul clamp_of lt of_bits
quantized_nan = refl

quantized_1 : quantized_of float1 ≡ 255
unfolding quantized_of to_unsigned mul clamp_of lt of_bits
quantized_1 = refl

channel_255 : channel_of 255 ≡ float1
unfolding channel_of div of_int of_bits
channel_255 = refl
