-- `registers::write` meets its contract past the refusal of the tables: the array that it passes on is the tables, whole. Assumes nothing.
use Rattle.tables.proofs.registers.write.Goals as goal

pub returns-in-Some : goal.returns-in-Some
returns-in-Some c = rw c.in-Some.ensures.cases.same at c.write_whole.ensures
