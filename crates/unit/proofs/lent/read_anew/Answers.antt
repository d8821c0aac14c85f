-- `lent::read_anew` meets its contract: the flag is stored, then the kept words and the block go into their parts (LentLaws: anew_parts).
use Rattle.std.proofs.Common.{rules}
use Rattle.unit.proofs.LentLaws.{anew_words_lem}
use Rattle.unit.proofs.lent.read_anew.Goals as goal

pub returns : goal.returns
returns c = anew_words_lem c.args.file.now c.args.cache.now _ _ (search rules) c.requires c.keep_registers.ensures c.put_reading.ensures.0
