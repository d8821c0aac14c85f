-- The one fact about the table of cases: all of it holds. Every case is closed, so the definitions compute it. Assumes nothing.
use Rattle.std.specs.Prelude.{◌≡◌, refl, true}
use Rattle.std.specs.Float.Ieee.{div, of_int, of_bits, to_bits, mul, sub, lt, to_unsigned, to_signed}
use Rattle.sources.specs.Sources.{same_words}
use Rattle.binary32.specs.Binary32.{clamp_of, floor_of, quantized_of, signed_place_of}
use Rattle.root.specs.Root.{root_of, root_units, isqrt, digits}
use Rattle.fields.specs.Fields.{short_float, short_word, short_sign, short_exponent, fixed_of, signed13, upload_value, upload_magnitude, upload_step, upload_value_bits, upload_step_bits}
use Rattle.refusals.specs.Refusals.{file_refusal, tables_refusal, register_refusal}
use Rattle.tables.specs.Tables.{is_data, moved, stored, place, put_entry, put, same_entry, changes, last, upload, write_if}
use Rattle.cases.specs.Cases.{half, float20, uploaded, told, signed_place, cases, hold}

pub cases-hold : hold cases ≡ true
unfolding half float20 uploaded told signed_place cases hold same_words div of_int of_bits to_bits mul sub lt to_unsigned to_signed clamp_of floor_of quantized_of signed_place_of root_of root_units isqrt digits short_float short_word short_sign short_exponent fixed_of signed13 upload_value upload_magnitude upload_step upload_value_bits upload_step_bits file_refusal tables_refusal register_refusal is_data moved stored place put_entry put same_entry changes last upload write_if
cases-hold = refl
