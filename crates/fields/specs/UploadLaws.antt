-- The value and the step of a word of table data are no NaN: each is a whole number over another that is not zero, or its negative. Assumes nothing.
use Rattle.std.specs.Prelude.{ℕ, ◌/◌, ◌%◌, not, T, eqb, pos}
use Rattle.std.specs.Float.{binary32}
use Rattle.std.specs.Float.Ieee.{of_int, is_nan}
use Rattle.fields.specs.Fields.{upload_value, upload_magnitude, upload_step}
use Rattle.fields.specs.QuotientLaws.{quotient_number, neg_number, pick_number}

pub value_number : (w : ℕ) → T (not (is_nan (upload_value w)))
unfolding upload_value of_int
value_number w = quotient_number binary32 (pos (w % 4096)) 4094

magnitude_number : (w : ℕ) → T (not (is_nan (upload_magnitude w)))
unfolding upload_magnitude of_int
magnitude_number w = quotient_number binary32 (pos (w / 4096 % 2048)) 2046

pub step_number : (w : ℕ) → T (not (is_nan (upload_step w)))
unfolding upload_step
step_number w = pick_number (eqb (w / 8388608 % 2) 1) _ _ (neg_number _ (magnitude_number w)) (magnitude_number w)
