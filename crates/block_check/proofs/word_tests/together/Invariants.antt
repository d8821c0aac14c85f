use Rattle.std.proofs.Common.{◌≡◌, eqb, map}
use Rattle.block.specs.Block.{words}
use Rattle.lighting.specs.Forms.{every}
use Rattle.block_check.proofs.word_tests.together.Given as goal

abbrev pub invariant-loop-word : goal.invariant-loop-word
invariant-loop-word g l = eqb l.bits 0 ≡ every l.word-index (λ k. g.T.WordTest.passes (words (map g.W.Word.value l.part) k))
