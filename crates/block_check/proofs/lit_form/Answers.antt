-- `block_check::lit_form` meets its contract: past the tests of the shape the form is that of the floats.
use Rattle.std.proofs.Common.{map, refl, sym, ◌∙◌}
use Rattle.block.specs.Block.{words}
use Rattle.block_check.proofs.Forms.{by_floats}
use Rattle.block_check.proofs.lit_form.Goals as goal

pub returns-then-are_clear : goal.returns-then-are_clear
returns-then-are_clear g c =
    let lights = sym c.are_formed.ensures ∙ c.if-not-are_formed.false in
    rw c.if-are_clear.true
    at (by_floats (words (map g.W.Word.value c.args.block.now)) c.args.count c.requires (sym c.unused_are_zero.ensures ∙ c.if-not-unused_are_zero.false) (sym c.head_formed.ensures ∙ c.if-not-head_formed.false)
    (sym c.lights_found-found.ensures.formed ∙ lights) _ _ (c.are_clear.ensures ∙ c.lights_found-found.ensures.nans lights) refl)

pub returns-then-floats_formed : goal.returns-then-floats_formed
returns-then-floats_formed g c =
    let lights = sym c.are_formed.ensures ∙ c.if-not-are_formed.false in
    rw (c.if-are_clear.false, c.if-floats_formed.true)
    at (by_floats (words (map g.W.Word.value c.args.block.now)) c.args.count c.requires (sym c.unused_are_zero.ensures ∙ c.if-not-unused_are_zero.false) (sym c.head_formed.ensures ∙ c.if-not-head_formed.false)
    (sym c.lights_found-found.ensures.formed ∙ lights) _ _ (c.are_clear.ensures ∙ c.lights_found-found.ensures.nans lights) c.floats_formed.ensures)

pub returns : goal.returns
returns g c =
    let lights = sym c.are_formed.ensures ∙ c.if-not-are_formed.false in
    rw (c.if-are_clear.false, c.if-floats_formed.false)
    at (by_floats (words (map g.W.Word.value c.args.block.now)) c.args.count c.requires (sym c.unused_are_zero.ensures ∙ c.if-not-unused_are_zero.false) (sym c.head_formed.ensures ∙ c.if-not-head_formed.false)
    (sym c.lights_found-found.ensures.formed ∙ lights) _ _ (c.are_clear.ensures ∙ c.lights_found-found.ensures.nans lights) c.floats_formed.ensures)
