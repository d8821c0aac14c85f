-- A colour's channels are values of binary32, since a quotient is rounded to one, and each is the float of its field's entry in the list of quotients, by the
-- list's rule. Assumes nothing.
use Rattle.std.specs.Prelude.{ℕ, ◌<◌, ◌≡◌, not, T, pos, get_or}
use Rattle.std.proofs.Common.{ap, ◌∙◌}
use Rattle.std.specs.Float.{binary32}
use Rattle.std.specs.Float.Ieee.{fits, is_nan, nan_bits, of_int}
use Rattle.std.specs.Float.Ieee.Bits.{of_bits-to_bits, nan_bits_is}
use Rattle.std.specs.Float.Ieee.Fits.{div-fits}
use Rattle.binary32.specs.Binary32.{float_of}
use Rattle.quotients.specs.Steps.{quotient_words}
use Rattle.quotients.specs.Claims.{quotient_word, Rule}
use Rattle.quotients.proofs.RuleLaws.{rule}
use Rattle.fields.specs.Fields.{colour_channel, colour_field}
use Rattle.fields.specs.QuotientLaws.{quotient_number}

pub channel_fits : (n : ℕ) → T (fits binary32 (colour_channel n))
unfolding colour_channel
channel_fits n = div-fits binary32 _ _

pub field_fits : (w at : ℕ) → T (fits binary32 (colour_field w at))
unfolding colour_field
field_fits w at = channel_fits _

-- ---- the list of quotients

word_back : (k : ℕ) → float_of (quotient_word k) ≡ colour_channel k
unfolding quotient_word colour_channel
word_back k = of_bits-to_bits binary32 (colour_channel k) (channel_fits k)

pub entry_channel : (k : ℕ) → k < 1024 → float_of (get_or quotient_words k 0) ≡ colour_channel k
unfolding Rule
entry_channel k h = ap float_of (rule k h) ∙ word_back k

channel_number : (k : ℕ) → T (not (is_nan (colour_channel k)))
unfolding colour_channel of_int
channel_number k = quotient_number binary32 (pos k) 254

pub entry_number : (k : ℕ) → k < 1024 → T (not (nan_bits binary32 (get_or quotient_words k 0)))
entry_number k h = rw (nan_bits_is binary32 (get_or quotient_words k 0), entry_channel k h) (channel_number k)
