-- `lighting_abi::lighting_restore` meets its contract. In each arm of the match the answer is the one that `restore` ensures, with its generation or its number taken out.
use Rattle.lighting_abi.proofs.lighting_restore.Goals as goal

pub returns-in-Ok : goal.returns-in-Ok
returns-in-Ok c = rw c.in-Ok.is at c.restore.ensures

pub returns-in-Err : goal.returns-in-Err
returns-in-Err c = rw c.from.ensures (rw c.in-Err.is at c.restore.ensures)
