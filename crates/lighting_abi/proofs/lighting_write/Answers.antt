-- `lighting_abi::lighting_write` meets its contract. In each arm of the match the answer is the one that `write` ensures, with its generation or its number taken out.
use Rattle.lighting_abi.proofs.lighting_write.Goals as goal

pub returns-in-Ok : goal.returns-in-Ok
returns-in-Ok c = rw c.in-Ok.is at c.write.ensures

pub returns-in-Err : goal.returns-in-Err
returns-in-Err c = rw c.from.ensures (rw c.in-Err.is at c.write.ensures)
