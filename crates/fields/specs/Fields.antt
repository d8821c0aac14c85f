-- Numbers in the fields of a register's word: short floats, colours, components of a spotlight's direction, and words of table data. To be read
-- beside "Decoding" and "Table upload" of document 01, whose sentences are quoted, and beside `pica_float`, `color`, `fixed` and `Tables::write` of
-- the Rust. Definitions only.
-- `n / 2 ^ at % 2 ^ width` is (n >> at) & ((1 << width) − 1).
use Rattle.std.specs.Prelude.{ℕ, ◌+◌, ◌-◌, ◌*◌, ◌/◌, ◌%◌, ◌^◌, cond, List, [], ◌∷◌, eqb, ltb, ℤ, pos, negsuc, Float}
use Rattle.std.specs.Float.{binary32}
use Rattle.std.specs.Float.Ieee.{div, neg, of_int}
use Rattle.binary32.specs.Binary32.{float_of, word_of}

-- ---- pica_float: m mantissa bits, e exponent bits above them, and the sign above these

-- "Exponent all ones becomes 255; else it becomes itself + 128 − 2^(exponent width − 1), zero included (no denormals)."
unfoldable pub short_exponent : ℕ → ℕ → ℕ
short_exponent e x = cond (eqb x (2 ^ e - 1)) 255 (x + 128 - 2 ^ (e - 1))

-- the sign's bit of n, in its place in a binary32 word; bits of n above it are ignored
unfoldable pub short_sign : ℕ → ℕ → ℕ → ℕ
short_sign m e n = n / 2 ^ (m + e) % 2 * 2 ^ 31

-- "All bits under the sign zero: signed zero."; "The mantissa fills the top of the 23 bits, the rest being zero."
unfoldable pub short_word : ℕ → ℕ → ℕ → ℕ
short_word m e n =
    cond (eqb (n % 2 ^ (m + e)) 0)
    (short_sign m e n)
    (short_sign m e n + short_exponent e (n / 2 ^ m % 2 ^ e) * 2 ^ 23 + n % 2 ^ m * 2 ^ (23 - m))

-- "A half has mantissa 10 and exponent 5 bits, the 20-bit float 12 and 7."
unfoldable pub short_float : ℕ → ℕ → ℕ → Float
short_float m e n = float_of (short_word m e n)

-- ---- color

-- one whole number over another, rounded once
infixl 60 ◌over◌
abbrev pub ◌over◌ : ℕ → ℕ → Float
n over k = div binary32 (of_int binary32 (pos n)) (of_int binary32 (pos k))

-- "each its 10 bits over 255, not capped at one"
unfoldable pub colour_channel : ℕ → Float
colour_channel n = n over 255

unfoldable pub colour_field : ℕ → ℕ → Float
colour_field w at = colour_channel (w / 2 ^ at % 1024)

-- "three fields at bits 20, 10, 0": red, green and blue
unfoldable pub colour_of : ℕ → List Float
colour_of w = colour_field w 20 ∷ colour_field w 10 ∷ colour_field w 0 ∷ []

-- ---- fixed

-- 13 bits as a signed number: from 4096 on it is n − 8192, which `negsuc k`, −(k + 1), writes at k = 8191 − n
unfoldable pub signed13 : ℕ → ℤ
signed13 n = cond (ltb n 4096) (pos n) (negsuc (8191 - n))

-- "13-bit signed fields .. over 2047, so 1FFF is −1/2047"
unfoldable pub fixed_of : ℕ → Float
fixed_of w = div binary32 (of_int binary32 (signed13 (w % 8192))) (of_int binary32 (pos 2047))

-- ---- the value and the step of a word of table data

-- "Value is bits 0–11 over 4095"
unfoldable pub upload_value : ℕ → Float
upload_value w = w % 4096 over 4095

-- "step is bits 12–22 over 2047,"
unfoldable pub upload_magnitude : ℕ → Float
upload_magnitude w = w / 4096 % 2048 over 2047

-- "negated if bit 23 is set": a zero becomes −0
unfoldable pub upload_step : ℕ → Float
upload_step w = cond (eqb (w / 8388608 % 2) 1) (neg (upload_magnitude w)) (upload_magnitude w)

-- the bits that an entry has of them
unfoldable pub upload_value_bits : ℕ → ℕ
upload_value_bits w = word_of (upload_value w)

unfoldable pub upload_step_bits : ℕ → ℕ
upload_step_bits w = word_of (upload_step w)
