-- `Lines::put_line` meets its contract. The line of the numbers that are still to come stays what was due, and each number with its gap takes at most four bytes.
use Rattle.std.proofs.Common.{arith, get_or, ◌∙◌}
use Rattle.printing.specs.Steps.{puts}
use Rattle.printing.specs.AddedLaws.{added_len, added_room}
use Rattle.printing.specs.DecimalLaws.{decimal_most}
use Rattle.printing.specs.TextLaws.{line_turn, line_none}
use Rattle.printing.proofs.Lines.put_line.Goals as goal

pub put_byte-requires : goal.put_byte-requires
put_byte-requires c =
    let d = c.put_decimal.ensures in
    omega (arith, added_len _ _ _ d, added_room _ _ _ d, decimal_most (get_or c.args.k c.loop-i.i 0))

pub loop-i-preserved : goal.loop-i-preserved
loop-i-preserved c =
    let l = c.loop-i.invariant in
    let d = c.put_decimal.ensures in
    let b = c.put_byte.ensures in
    record {
      eight = l.eight;
      bytes = l.bytes;
      same_reference = b.same_reference ∙ d.same_reference ∙ l.same_reference;
      same_length = added_room _ _ _ b ∙ added_room _ _ _ d ∙ l.same_length;
      within = omega (arith, added_len _ _ _ d, added_len _ _ _ b, decimal_most (get_or c.args.k c.loop-i.i 0));
      due = line_turn _ _ _ _ c.loop-i.i _ _ l.eight (omega arith) c.gap_after.ensures d b l.due;
    }

pub returns-clause-text : goal.returns-clause-text
unfolding puts
returns-clause-text c =
    let l = c.loop-i.invariant in
    record { same_reference = l.same_reference; after = rw (line_none c.args.k c.loop-i.i (omega arith)) at l.due }
