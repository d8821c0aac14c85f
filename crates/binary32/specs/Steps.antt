-- What the code computes step by step, and asks of its steps; nobody has to trust it: the contracts of `floor`, `quantized`, `unsigned_place` and
-- `signed_place` cite the law, Binary32, and HeldLaws, ByteLaws and RaisedLaws tie this to it. Definitions only.
use Rattle.std.specs.Prelude.{ℕ, ◌+◌, ◌-◌, ◌*◌, Bool, false, cond, not, ◌&&◌, ltb, leb, Float}
use Rattle.std.specs.Float.{nan, inf, fin}
use Rattle.std.specs.Float.Ieee.{up, down, lt}
use Rattle.binary32.specs.Binary32.{floor_part}

-- x, but low where x is below it or NaN, and high where that is above it
unfoldable pub held_of : Float → Float → Float → Float
held_of x low high = let y = cond (lt low x) x low in cond (lt high y) high y

-- a number from +0 to below 256
unfoldable pub under_byte : Float → Bool
under_byte nan = false
under_byte (inf s) = false
under_byte (fin s m e) = not s && ltb (m * up e) (256 * down e)

-- a number from −128 to 256
unfoldable pub raisable : Float → Bool
raisable nan = false
raisable (inf s) = false
raisable (fin s m e) = leb (m * up e) (cond s 128 256 * down e)

-- 3 · 2^22 more than the floor of such a number
unfoldable pub raised_floor : Float → ℕ
raised_floor nan = 0
raised_floor (inf s) = 0
raised_floor (fin s m e) = cond s (12582912 - floor_part s m e) (12582912 + floor_part s m e)
