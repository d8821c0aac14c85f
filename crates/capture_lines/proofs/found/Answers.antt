-- `capture_lines::found` meets its contract. A wrong length is block shading's first refusal, and once the lengths are right what the check finds of the block says
-- for every fragment what block shading answers.
use Rattle.std.proofs.Common.{◌≡◌, sym, ap, subst, ◌∙◌}
use Rattle.sources.proofs.WordsLaws.{word_values}
use Rattle.block.specs.Steps.{block_form}
use Rattle.block.specs.declared.BlockForm.TheVariants.{Off, NotWellFormed}
use Rattle.block_reading.specs.FormLaws.{Lit, found_lit, found_off, found_bad}
use Rattle.block_shading.proofs.AnswersLaws.{wrong_block, wrong_tables}
use Rattle.capture_lines.specs.Lines.{no_answer}
use Rattle.capture_lines.specs.FormedLaws.{lit_shades_lem, off_shades, bad_shades}
use Rattle.capture_lines.proofs.found.Goals as goal

pub returns-in_default : goal.returns-in_default
returns-in_default c q h = sym (wrong_block _ _ q no_answer c.in_default.ensures.1)

pub returns-in_default-try_from : goal.returns-in_default-try_from
returns-in_default-try_from c q h = sym (wrong_tables _ _ q no_answer c.in-Ok.ensures.1.long c.in_default-try_from.ensures.1)

pub returns-in-Ok-Some : goal.returns-in-Ok-Some
returns-in-Ok-Some c q h =
    let b = c.args.block.now in
    let checked = word_values c.in-Ok.block.now ∙ c.in-Ok.ensures.1.same in
    let found = found_lit _ _ _ _ _ c.in-Ok-Some.ensures c.in-Ok-Some.field-0-is in
    let lit : Lit b = subst Lit checked found.1 in
    let e : c.in-Ok-Some.block.marked.words.now ≡ b = sym (word_values c.in-Ok-Some.block.marked.words.now) ∙ found.0 ∙ checked in
    rw (e, c.in-Ok-try_from.ensures.1.same) (lit_shades_lem b c.args.tables.now q c.in-Ok.ensures.1.long c.in-Ok-try_from.ensures.1.long h lit)

pub returns-in-Ok-None : goal.returns-in-Ok-None
returns-in-Ok-None c q h =
    let b = c.args.block.now in
    let checked = word_values c.in-Ok.block.now ∙ c.in-Ok.ensures.1.same in
    let off : block_form b ≡ Off = ap block_form (sym checked) ∙ found_off _ _ _ _ c.in-Ok-None.ensures c.in-Ok-None.field-0-is in
    off_shades b c.args.tables.now q c.in-Ok.ensures.1.long c.in-Ok-try_from.ensures.1.long h off

pub returns-in-Err : goal.returns-in-Err
returns-in-Err c q h =
    let b = c.args.block.now in
    let checked = word_values c.in-Ok.block.now ∙ c.in-Ok.ensures.1.same in
    let found = found_bad _ _ _ _ c.in-Err.ensures in
    let bad : block_form b ≡ NotWellFormed = ap block_form (sym checked) ∙ found.1 in
    rw found.0 (bad_shades b c.args.tables.now q c.in-Ok.ensures.1.long c.in-Ok-try_from.ensures.1.long h bad)
