-- `upload::upload_step` meets its contract: the cast is exact, since the magnitude is below 2048, and the test of bit 23 is the definition's.
use native.Mathlib.Omega.{arith}
use borrow.Author.Tests.{eq-eqb, ne_eqb}
use lib.Ieee.{of_int, of_bits}
use Rattle.fields.specs.Fields.{upload_step, upload_magnitude}
use Rattle.binary32.specs.CastLaws.{exact}
use Rattle.fields.proofs.upload.upload_step.Goals as goal

pub int_to_float-magnitude : goal.int_to_float-magnitude
int_to_float-magnitude c = exact _ (omega arith)

pub returns-then-word-eq1 : goal.returns-then-word-eq1
unfolding upload_step upload_magnitude of_int of_bits
returns-then-word-eq1 c = simp (eq-eqb _ _ c.if-word-eq1.true)

pub returns-else-word-eq1 : goal.returns-else-word-eq1
unfolding upload_step upload_magnitude of_int of_bits
returns-else-word-eq1 c = simp (ne_eqb _ _ c.if-word-eq1.false)
