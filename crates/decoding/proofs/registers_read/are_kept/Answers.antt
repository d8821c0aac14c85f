-- `registers_read::are_kept` meets its contract: the five parts together have no differences exactly where the kept words are the file's.
use Rattle.std.proofs.Common.{rules, ◌≡◌, ◌≤◌, length}
use Rattle.decoding.proofs.registers_read.Kept.{found_same}
use Rattle.decoding.proofs.registers_read.are_kept.Goals as goal

pub returns : goal.returns
returns c =
    let file = c.args.file.now in
    let whole : length file ≡ 474 = search rules in
    rw (c.differing-enable.ensures.0, c.differing-lights.ensures.0, c.differing-disable.ensures.0, c.differing-tables.ensures.0, c.differing-slots.ensures.0)
    (found_same file (search rules) c.args.kept.now (search rules))
