-- `registers::bits` meets its contract. Shifts are quotients and remainders by powers of two, and a word, being below 2 ^ 32, has nothing from bit 32 on.
use mathlib.Core.Path.{sym}
use native.Mathlib.Omega.{arith}
use Rattle.decoding.proofs.registers.Shifts.{one_shifted, none_above, all_kept}
use Rattle.decoding.proofs.registers.bits.Goals as goal

pub returns-then-from-ge32 : goal.returns-then-from-ge32
returns-then-from-ge32 c = sym (none_above c.args.word c.args.from c.args.width (omega arith) c.if-from-ge32.true)

pub returns-then-width-ge32 : goal.returns-then-width-ge32
returns-then-width-ge32 c =
    sym (all_kept c.args.word c.args.from c.args.width (omega arith) c.if-width-ge32.true)

pub returns : goal.returns
returns c = rw (one_shifted c.args.width c.if-width-ge32.false)
