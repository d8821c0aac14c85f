-- `block_shading::shade_checked` meets its contract where the block is lit: its words are those that were checked, and the fragments are chunks of 23 words.
use Rattle.std.proofs.Common.{ℕ, ◌∙◌, ap, arith, subst}
use Rattle.sources.proofs.WordsLaws.{word_values}
use Rattle.block.specs.Block.{words, block_lighting}
use Rattle.shading.specs.Shade.{shaded}
use Rattle.block_reading.specs.FormLaws.{Lit, found_lit}
use Rattle.block_shading.specs.FragmentsLaws.{eights_of_chunks}
use Rattle.block_shading.proofs.AnswersLaws.{whole_fragments, lit_by_form}
use Rattle.block_shading.proofs.shade_checked.Goals as goal

pub shade_each-requires : goal.shade_each-requires
shade_each-requires c =
    (omega arith, (omega arith, (omega (arith, c.as_chunks.ensures.front_len, c.requires.1), rw word_values c.first_unit_quaternion-first.ensures)))

pub returns-in-Some : goal.returns-in-Some
returns-in-Some c =
    let found = found_lit _ _ _ _ _ c.in_ok-checked.ensures c.in-Some.is in
    let checked = word_values c.args.block.now in
    let lit : Lit c.args.block.now = subst Lit checked found.1 in
    let chunks = eights_of_chunks (block_lighting (words c.args.block.now)) c.args.tables.now (λ (k : ℕ). k) in
    let k = rw (found.0, checked, word_values c.args.tables.now, c.as_chunks.ensures.front, chunks, word_values c.args.fragments.now) at c.shade_each.ensures in
    ap (shaded 0) k
    ∙ lit_by_form c.args.block.now c.args.tables.now c.args.fragments.now c.args.answers.now c.told-block c.told-tables (whole_fragments _ _ c.requires.0 c.requires.1) lit
