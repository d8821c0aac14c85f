-- `decoding::decode_registers` meets its contract: the law's `read` is on where the test says so, and then holds what `lighting` ensures; else it is off.
use mathlib.Core.Path.{sym, ◌∙◌}
use Rattle.decoding.proofs.DecodeLaws.{read-lit, read_unlit}
use Rattle.decoding.proofs.decode_registers.Goals as goal

pub returns-then-registers_on : goal.returns-then-registers_on
returns-then-registers_on c =
    let a = c.args in
    rw c.lighting.ensures (sym (read-lit a.file.now (sym c.registers_on.ensures ∙ c.if-registers_on.true)))

pub returns-else-registers_on : goal.returns-else-registers_on
returns-else-registers_on c = sym (read_unlit c.args.file.now (sym c.registers_on.ensures ∙ c.if-registers_on.false))
