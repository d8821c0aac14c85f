-- `lent::is_formed` meets its contract: each case of the block's form says whether shading takes it (LentLaws: form_formed).
use Rattle.std.proofs.Common.{rules, ◌≡◌, refl, not, ap, ◌∙◌}
use Rattle.sources.proofs.WordsLaws.{word_values}
use Rattle.block.specs.Steps.{block_form}
use Rattle.unit.specs.Steps.{is_formed}
use Rattle.unit.proofs.LentLaws.{form_formed, other_formed}
use Rattle.unit.proofs.lent.is_formed.Goals as goal
use Rattle.unit.proofs.lent.is_formed.Goals.{in-NotWellFormed, in_default}

pub returns : goal.returns
unfolding is_formed
returns c =
    let told : not c.match-matches.matches ≡ is_formed c.form.result =
    elim c.match-matches.branch [
      | in-NotWellFormed w ↦ rw (w.matches-is, w.in-NotWellFormed.is) refl
      | in_default w ↦ rw (w.matches-is, other_formed _ w.in_default.not-NotWellFormed) refl
    ] in
    told ∙ ap is_formed (c.form.ensures ∙ ap block_form (word_values c.args.block.now)) ∙ form_formed c.args.block.now (search rules)
