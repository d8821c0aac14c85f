-- IEEE 754's binary32 as document 01 uses it: words and floats, floor and order, a place in a table, quantising. To be read beside "Arithmetic under
-- the decoding" and "Shading", whose sentences are quoted. Definitions only.
-- A float is a value of `lib.Ieee`: `nan`, `inf s`, or `fin s m e`, which is m · 2^e; s says whether it has a minus sign. `add`, `sub`, `mul`, `div` are rounded
-- once, to the nearest, a tie to the even one; `lt` and `eq` are false where a side is NaN. `up e` and `down e` are 2^e and 1, or 1 and 2^−e where e is below 0.
use Rattle.std.specs.Prelude.{ℕ, ◌+◌, ◌-◌, ◌*◌, ◌/◌, ◌%◌, Bool, false, not, ◌&&◌, ◌||◌, cond, eqb, ℤ, pos, negsuc, Float}
use Rattle.std.specs.Float.{nan, inf, fin, binary32}
use Rattle.std.specs.Float.Ieee.{of_bits, to_bits, is_nan, lt, eq, up, down, round, sub, mul, div, of_int, to_unsigned, to_signed}
use Rattle.binary32.specs.declared.Place.{Place}

-- ---- Words and floats

-- the float whose bit pattern is the word n; every NaN pattern is the one NaN
abbrev pub float_of : ℕ → Float
float_of n = of_bits binary32 n

-- the bit pattern of x; NaN is written 7FC00000
abbrev pub word_of : Float → ℕ
word_of x = to_bits binary32 x

abbrev pub float0 : Float
float0 = float_of 0

abbrev pub float1 : Float
float1 = float_of 0x3f80_0000

abbrev pub float127 : Float
float127 = float_of 0x42fe_0000

abbrev pub float128 : Float
float128 = float_of 0x4300_0000

abbrev pub float255 : Float
float255 = float_of 0x437f_0000

abbrev pub float256 : Float
float256 = float_of 0x4380_0000

abbrev pub minus128 : Float
minus128 = float_of 0xc300_0000

-- ---- "Floor, magnitude, max, min and clamp follow Rust"

-- the whole part of m · 2^e, and whether a rest is left
abbrev pub whole_part : ℕ → ℤ → ℕ
whole_part m e = m * up e / down e

abbrev pub has_rest : ℕ → ℤ → Bool
has_rest m e = not (eqb (m * up e % down e) 0)

-- the magnitude of the floor of ±m · 2^e: below zero a rest takes it one further down
abbrev pub floor_part : Bool → ℕ → ℤ → ℕ
floor_part s m e = cond (s && has_rest m e) (whole_part m e + 1) (whole_part m e)

-- the largest whole number that is not above x; it keeps x's sign, so −0 stays −0 (FloorLaws: the rounding changes nothing)
unfoldable pub floor_of : Float → Float
floor_of nan = nan
floor_of (inf s) = inf s
floor_of (fin s m e) = round binary32 s (floor_part s m e) 1

-- x without its sign
unfoldable pub magnitude_of : Float → Float
magnitude_of nan = nan
magnitude_of (inf s) = inf false
magnitude_of (fin s m e) = fin false m e

-- whether x has a minus sign; −0 has one
abbrev pub minus_sign : Float → Bool
minus_sign nan = false
minus_sign (inf s) = s
minus_sign (fin s m e) = s

-- x stands before y, and −0 before +0: equal floats with different signs are zeros
unfoldable pub before : Float → Float → Bool
before x y = lt x y || (eq x y && (minus_sign x && not (minus_sign y)))

-- "max or min of NaN and a number is the number"; "Max of −0 and +0, in either order, is +0", and min −0
unfoldable pub max_of : Float → Float → Float
max_of x y = cond (is_nan x) y (cond (is_nan y) x (cond (before x y) y x))

unfoldable pub min_of : Float → Float → Float
min_of x y = cond (is_nan x) y (cond (is_nan y) x (cond (before y x) y x))

-- "clamp keeps NaN": Rust's two comparisons in its order. Rust panics where low is above high or a bound is NaN; this is total, and a NaN bound bounds nothing.
unfoldable pub clamp_of : Float → Float → Float → Float
clamp_of x low high = let y = cond (lt x low) low x in cond (lt high y) high y

-- ---- A place in a table of 256 entries; `to_unsigned` and `to_signed` are Rust's casts: "NaN converts to 0"

-- "Unsigned index: floor of 256 times the input, clamped 0–255"; "Delta is the scaled input less the clamped index."
unfoldable pub unsigned_place_of : Float → Place
unsigned_place_of x =
    let scaled = mul binary32 x float256 in
    let clamped = clamp_of (floor_of scaled) float0 float255 in
    record { entry = to_unsigned 8 clamped; delta = sub binary32 scaled clamped }

-- −1 becomes 255, and −128 becomes 128; `negsuc n` is −(n + 1)
abbrev pub wrapped : ℤ → ℕ
wrapped (pos n) = n
wrapped (negsuc n) = 255 - n

-- "signed: floor of 128 times, clamped −128–127, wrapped into 0–255"
unfoldable pub signed_place_of : Float → Place
signed_place_of x =
    let scaled = mul binary32 x float128 in
    let clamped = clamp_of (floor_of scaled) minus128 float127 in
    record { entry = wrapped (to_signed 7 clamped); delta = sub binary32 scaled clamped }

-- ---- Quantising: "Each channel ends as k/255, k a whole number from 0 to 255."

-- k: the whole part of 255 times x, x clamped 0 to 1; 0 for NaN
unfoldable pub quantized_of : Float → ℕ
quantized_of x = to_unsigned 8 (mul binary32 (clamp_of x float0 float1) float255)

unfoldable pub channel_of : ℕ → Float
channel_of k = div binary32 (of_int binary32 (pos k)) float255
