-- `upload::upload_value` meets its contract: the cast is exact, since the field is below 4096, and the quotient is the definition's.
use mathlib.Core.Path.{refl}
use native.Mathlib.Omega.{arith}
use lib.Ieee.{of_int, of_bits}
use Rattle.fields.specs.Fields.{upload_value}
use Rattle.binary32.specs.CastLaws.{exact}
use Rattle.fields.proofs.upload.upload_value.Goals as goal

pub int_to_float-result : goal.int_to_float-result
int_to_float-result c = exact _ (omega arith)

pub returns : goal.returns
unfolding upload_value of_int of_bits
returns c = refl
