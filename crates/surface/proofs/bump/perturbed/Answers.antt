-- `bump::perturbed` meets its contract: each operation and call is the definition's, in its order.
use lib.Ieee.{of_int, of_bits}
use Rattle.surface.specs.Steps.{perturbed}
use mathlib.Core.Path.{refl}
use Rattle.surface.proofs.bump.perturbed.Goals as goal

pub returns : goal.returns
unfolding perturbed of_int of_bits
returns c = refl
