-- `light::light_of` meets its contract: each part is what the call that makes it ensures.
use Rattle.std.proofs.Common.{map}
use Prim.Native.Nat.{ℕ}
use mathlib.Core.Path.{ap, ◌∙◌}
use Rattle.block.specs.Block.{words, from, block_light}
use Rattle.block_reading.proofs.light.LightMade.{vector_from, vector_first, numbered, light_made}
use Rattle.block_reading.proofs.light.light_of.Goals as goal

pub returns : goal.returns
returns g c =
    let w = words (map g.W.Word.value c.args.block.words.now) in
    let at = c.slot_at-at.result in
    light_made (from w at) _ _ _ _ _ _ _ _ _ _
    (c.vector.ensures ∙ vector_first w at)
    (c.vector-2.ensures ∙ vector_from w at 4)
    (c.vector-3.ensures ∙ vector_from w at 8)
    (c.vector-4.ensures ∙ vector_from w at 12)
    (c.vector-5.ensures ∙ vector_from w at 16)
    (c.vector-6.ensures ∙ vector_from w at 20)
    (c.vector-7.ensures ∙ vector_from w at 24)
    c.distance_of.ensures
    (c.light_number.ensures ∙ ap numbered c.word.ensures)
    c.word-flags.ensures
    ∙ ap (λ (i : ℕ). block_light (from w i)) c.slot_at-at.ensures
