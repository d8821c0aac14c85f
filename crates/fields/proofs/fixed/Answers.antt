-- `fields::fixed` meets its contract: what is left of the remainder by 2 ^ 13 is signed, and the quotient is the definition's.
use lib.Ieee.{of_int, of_bits}
use Rattle.fields.specs.Fields.{fixed_of}
use Rattle.fields.proofs.fixed.Goals as goal

pub returns : goal.returns
unfolding fixed_of of_int of_bits
returns c = rw c.signed.ensures
