-- `lit::MarkedBlock::vector` meets its contract: each component is the float of its word, which is no NaN's pattern where no word of the block is.
use native.Mathlib.Omega.{arith}
use Rattle.std.proofs.Common.{map}
use Rattle.block.specs.Block.{words}
use Rattle.block_reading.proofs.lit.Plain.{plain_word}
use Rattle.block_reading.proofs.lit.MarkedBlock.vector.Goals as goal

pub float_from_bits-result : goal.float_from_bits-result
float_from_bits-result g c = plain_word (words (map g.W.Word.value c.args.self.words.now)) _ _ (c.args.self.plain c.if-self.true) (omega arith) c.word.ensures

pub float_from_bits-result-then-self : goal.float_from_bits-result-then-self
float_from_bits-result-then-self g c = plain_word (words (map g.W.Word.value c.args.self.words.now)) _ _ (c.args.self.plain c.if-self.true) (omega arith) c.word-then-self.ensures

pub float_from_bits-result-then-self-2 : goal.float_from_bits-result-then-self-2
float_from_bits-result-then-self-2 g c = plain_word (words (map g.W.Word.value c.args.self.words.now)) _ _ (c.args.self.plain c.if-self.true) (omega arith) c.word-then-self-2.ensures
