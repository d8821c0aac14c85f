-- `decoding::registers_on` meets its contract: the test is that of the steps, which says whether the law's `read` is on.
use Rattle.decoding.proofs.DecodeLaws.{read-on}
use Rattle.decoding.specs.Steps.{lighting_on}
use Rattle.decoding.proofs.registers_on.Goals as goal

pub returns : goal.returns
unfolding lighting_on
returns c =
    simp (read-on, c.register.ensures, c.flag.ensures, c.register-2.ensures, c.flag-2.ensures)
