-- Document 01's cases of the encoded numbers. Each is closed, so both sides compute to the same value. Assumes nothing.
use mathlib.Core.Bool.{true, false}
use mathlib.Core.Path.{◌≡◌, refl}
use lib.IntN.{pos, negsuc}
use lib.Ieee.{fin, binary32, div, neg, of_int, of_bits, to_bits}
use Rattle.fields.specs.Fields.{upload_value, upload_magnitude, upload_step, upload_value_bits, upload_step_bits, colour_channel, colour_field, signed13, fixed_of, short_exponent, short_sign, short_word, short_float}

half_3_c00 : short_float 10 5 0x3C00 ≡ of_int binary32 (pos 1)
unfolding short_float short_word short_sign short_exponent of_bits of_int
half_3_c00 = refl

half_8000 : short_float 10 5 0x8000 ≡ fin true 0 (pos 0)
unfolding short_float short_word short_sign short_exponent of_bits
half_8000 = refl

half_0001 : short_word 10 5 0x0001 ≡ 0x3800_2000
unfolding short_word short_sign short_exponent
half_0001 = refl

half_7_c00 : short_word 10 5 0x7C00 ≡ 0x7F80_0000
unfolding short_word short_sign short_exponent
half_7_c00 = refl

float20_3_f000 : short_float 12 7 0x3F000 ≡ of_int binary32 (pos 1)
unfolding short_float short_word short_sign short_exponent of_bits of_int
float20_3_f000 = refl

-- −1 / 2047
fixed_1FFF : fixed_of 0x1FFF ≡ div binary32 (of_int binary32 (negsuc 0)) (of_int binary32 (pos 2047))
unfolding fixed_of signed13
fixed_1FFF = refl

upload_800000_value : upload_value 0x80_0000 ≡ fin false 0 (pos 0)
unfolding upload_value of_int div
upload_800000_value = refl

upload_800000_step : upload_step 0x80_0000 ≡ fin true 0 (pos 0)
unfolding upload_step upload_magnitude of_int div neg
upload_800000_step = refl

upload_800000_value_bits : upload_value_bits 0x80_0000 ≡ 0
unfolding upload_value_bits upload_value of_int div to_bits
upload_800000_value_bits = refl

upload_800000_step_bits : upload_step_bits 0x80_0000 ≡ 0x8000_0000
unfolding upload_step_bits upload_step upload_magnitude of_int div neg to_bits
upload_800000_step_bits = refl

-- the largest field is above one: 1023 / 255
colour_3FF : colour_field 0x3FF 0 ≡ div binary32 (of_int binary32 (pos 1023)) (of_int binary32 (pos 255))
unfolding colour_field colour_channel
colour_3FF = refl

colour_3FF_bits : to_bits binary32 (colour_field 0x3FF 0) ≡ 0x4080_6060
unfolding colour_field colour_channel of_int div to_bits
colour_3FF_bits = refl
