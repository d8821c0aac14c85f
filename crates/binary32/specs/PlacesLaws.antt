-- The place of 1 is entry 255 with delta 1: it is computed.
-- Assumes nothing.
use Rattle.std.specs.Prelude.{◌≡◌, refl}
use Rattle.std.specs.Float.Ieee.{mul, sub, lt, to_unsigned, of_bits}
use Rattle.binary32.specs.Binary32.{float1, clamp_of, floor_of, unsigned_place_of}

-- so reads distance place 1
pub unsigned_at_1 : unsigned_place_of float1 ≡ record { entry = 255; delta = float1 }
unfolding unsigned_place_of to_unsigned sub clamp_of lt floor_of mul of_bits
unsigned_at_1 = refl
