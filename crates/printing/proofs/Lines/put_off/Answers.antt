-- `Lines::put_off` meets its contract: the text has four bytes.
use Rattle.std.proofs.Common.{arith}
use Rattle.printing.specs.AddedLaws.{added_len}
use Rattle.printing.proofs.Lines.put_off.Goals as goal

pub returns-clause-room : goal.returns-clause-room
returns-clause-room c = omega (arith, added_len _ _ _ c.put_text.ensures)
