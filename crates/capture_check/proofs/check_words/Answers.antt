-- `capture_check::check_words` meets its contract. The form is tested before any register, and the registers only of a capture whose form is
-- right.
use Rattle.std.proofs.Common.{sym, ◌∙◌}
use Rattle.capture_check.specs.Contents.{body_count, contents_end, capture_words_refusal}
use Rattle.capture_check.specs.ContentsLaws.{shaped_end, shaped-gapless}
use Rattle.capture_check.specs.StepsLaws.{gapless_within}
use Rattle.capture_check.proofs.check_words.Goals as goal

pub returns-then-not-shaped : goal.returns-then-not-shaped
unfolding capture_words_refusal
returns-then-not-shaped c = rw (sym c.shaped.ensures ∙ c.if-not-shaped.true)

pub triples-requires : goal.triples-requires
triples-requires c = shaped_end _ (sym c.shaped.ensures ∙ c.if-not-shaped.false)

pub registers_right-requires : goal.registers_right-requires
registers_right-requires c =
    let w = c.args.words.now in
    gapless_within c.triples.result.now (contents_end (body_count w)) w (rw c.triples.ensures (shaped-gapless _ (sym c.shaped.ensures ∙ c.if-not-shaped.false)))

pub returns-then-not-registers_right : goal.returns-then-not-registers_right
unfolding capture_words_refusal
returns-then-not-registers_right c = rw (sym c.shaped.ensures ∙ c.if-not-shaped.false, ← c.triples.ensures, sym c.registers_right.ensures ∙ c.if-not-registers_right.true)

pub returns : goal.returns
unfolding capture_words_refusal
returns c = rw (sym c.shaped.ensures ∙ c.if-not-shaped.false, ← c.triples.ensures, sym c.registers_right.ensures ∙ c.if-not-registers_right.false)
