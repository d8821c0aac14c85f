-- `light_fields::colors` meets its contract. The loop's invariant: the colours of the words before k are put in, so that all four are there once it ends.
use Rattle.std.proofs.Common.{◌≡◌, ℕ, suc, ◌+◌, ◌*◌, List, [], ◌∷◌, get_or, set, refl, ap, arith}
use Rattle.fields.specs.Fields.{colour_field, colour_of}
use Rattle.decoding.specs.Steps.{colours_to, four_colours}
use Rattle.decoding.proofs.light_fields.colors.Goals as goal

one_more : (ws : List ℕ) (k : ℕ) → set (set (set (colours_to ws k) (3 * k) (colour_field (get_or ws k 0) 20)) (3 * k + 1) (colour_field (get_or ws k 0) 10)) (3 * k + 2) (colour_field (get_or ws k 0) 0) ≡ colours_to ws (k + 1)
unfolding colours_to
one_more ws k = let next : suc k ≡ k + 1 = omega arith in ap (colours_to ws) next

pub loop-k-init : goal.loop-k-init
unfolding colours_to
loop-k-init c = refl

pub loop-k-preserved : goal.loop-k-preserved
unfolding colour_of
loop-k-preserved c =
    let s = c.args in
    let ws = s.first ∷ s.second ∷ s.third ∷ s.fourth ∷ [] in
    rw (c.loop-k.invariant, c.color-three.ensures) (one_more ws c.loop-k.k)

pub returns : goal.returns
unfolding colours_to four_colours colour_of
returns c =
    let all : c.loop-k.k ≡ 4 = omega arith in
    rw all at c.loop-k.invariant
