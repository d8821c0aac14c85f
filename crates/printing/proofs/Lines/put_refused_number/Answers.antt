-- `Lines::put_refused_number` meets its contract: the word, the number and the newline are put one after another.
use Rattle.std.proofs.Common.{arith}
use Rattle.printing.specs.AddedLaws.{added_len, added_room, added_more, added_decimal}
use Rattle.printing.proofs.Lines.put_refused_number.Goals as goal

pub put_decimal-requires : goal.put_decimal-requires
put_decimal-requires c =
    let t = c.put_text.ensures in
    (omega (arith, added_len _ _ _ t, added_room _ _ _ t), omega (arith, c.requires.1))

pub put_byte-requires : goal.put_byte-requires
put_byte-requires c =
    let t = c.put_text.ensures in
    let d = c.put_decimal.ensures in
    omega (arith, added_len _ _ _ t, added_room _ _ _ t, added_room _ _ _ d, added_decimal _ _ _ d)

pub returns-clause-text : goal.returns-clause-text
returns-clause-text c = added_more _ _ _ c.put_text.ensures _ _ (added_more _ _ _ c.put_decimal.ensures _ _ c.put_byte.ensures)

pub returns-clause-room : goal.returns-clause-room
returns-clause-room c = omega (arith, added_len _ _ _ c.put_text.ensures, added_decimal _ _ _ c.put_decimal.ensures, added_len _ _ _ c.put_byte.ensures)
