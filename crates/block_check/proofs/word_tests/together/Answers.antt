-- `word_tests::together` meets its contract. The loop's invariant: the bits so far are 0 exactly if the words so far pass.
use Rattle.std.proofs.Common.{◌≡◌, map, length, add-one, arith, rules, sym, ap, ◌∙◌}
use Rattle.std.proofs.lemmas.List.{get_or-map}
use Rattle.lighting.specs.Forms.{every}
use Rattle.block.specs.Block.{words}
use Rattle.block_check.specs.OrLaws.{or_more}
use Rattle.block_check.proofs.word_tests.together.Goals as goal

pub loop-word-init : goal.loop-word-init
unfolding every
loop-word-init g c = search rules

pub loop-word-preserved : goal.loop-word-preserved
unfolding every
loop-word-preserved g c =
    let l = c.loop-word in
    let passes = g.T.WordTest.passes in
    let e : c.value.result ≡ words (map g.W.Word.value c.args.part.now) l.word-index =
    c.value.ensures ∙ ap g.W.Word.value c.word-item.is ∙ sym (get_or-map g.W.Word.value c.args.part.now l.word-index c.word-item.result 0 c.loop-word-test.true) in
    rw add-one (or_more l.bits c.bits-bits.result _ _ l.invariant (c.bits-bits.ensures ∙ ap passes e))

pub returns : goal.returns
returns g c = let e : c.loop-word.word-index ≡ length c.args.part.now = omega arith in rw e at c.loop-word.invariant
