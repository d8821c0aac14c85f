-- `lent::put_reading` meets its contract: a reading that is on is in range, so that its block can be filled, and one that is off has a block of zeros
-- (LentLaws: reading_lit, reading_off).
use Rattle.std.proofs.Common.{ℕ, replicate, sym, ap, ◌∙◌}
use Rattle.unit.proofs.LentLaws.{decoded_range, reading_lit, reading_off}
use Rattle.unit.proofs.lent.put_reading.Goals as goal

pub returns : goal.returns
returns c =
    let r = reading_off c.args.file.now (sym c.if-registers_on.ensures) in
    (c.fill-2.ensures.after (λ y e. e) ∙ ap (λ (n : ℕ). replicate n 0) c.requires ∙ r.0, r.1)

pub fill-requires : goal.fill-requires
fill-requires c = decoded_range c.args.file.now _ c.lit_registers.ensures

pub returns-in-Some : goal.returns-in-Some
returns-in-Some c =
    let r = reading_lit c.args.file.now _ c.lit_registers.ensures in
    (c.fill.ensures ∙ r.0, r.1)
