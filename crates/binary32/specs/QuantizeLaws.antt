-- A channel is a whole number from 0 to 255, since the cast gives eight bits, and that of NaN is 0, which is computed. Assumes nothing.
use Rattle.std.specs.Prelude.{◌≡◌, refl, ◌≤◌, ◌<◌, Float}
use Rattle.std.proofs.Common.{le_of_suc-le-suc}
use Rattle.std.specs.Float.{nan, binary32}
use Rattle.std.specs.Float.Ieee.{mul, lt, of_bits, to_unsigned}
use Rattle.std.specs.Float.Ieee.Casts.{to_unsigned-lt}
use Rattle.binary32.specs.Binary32.{float0, float1, float255, clamp_of, quantized_of}

pub quantized_byte : (x : Float) → quantized_of x < 256
unfolding quantized_of
quantized_byte x = to_unsigned-lt 8 (mul binary32 (clamp_of x float0 float1) float255)

pub quantized_at_most : (x : Float) → quantized_of x ≤ 255
quantized_at_most x = le_of_suc-le-suc (quantized_byte x)

pub quantized_nan : quantized_of nan ≡ 0
unfolding quantized_of to_unsigned mul clamp_of lt of_bits
quantized_nan = refl
