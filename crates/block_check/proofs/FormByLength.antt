-- A block's form by its length: that of its words where they are 328, and none of another length. Assumes nothing.
use Rattle.std.proofs.Common.{◌≡◌, ℕ, List, map, length, refl, ◌∙◌, sym, eq-eqb, ne_eqb}
use Rattle.std.proofs.lemmas.List.{length-map}
use Rattle.block.specs.declared.BlockForm.TheVariants.{NotWellFormed}
use Rattle.block.specs.Block.{words}
use Rattle.block.specs.Steps.{form_of, block_form}

pub of_length : {X : Type 0} (value : X → ℕ) (b : List X) → length b ≡ 328 → block_form (map value b) ≡ form_of (words (map value b))
unfolding block_form
of_length value b h = rw (eq-eqb (length (map value b)) 328 (length-map b value ∙ h)) refl

pub of_another_length : {X : Type 0} (value : X → ℕ) (b : List X) → (length b ≡ 328 → ⊥) → block_form (map value b) ≡ NotWellFormed
unfolding block_form
of_another_length value b h = rw (ne_eqb (length (map value b)) 328 (λ e. h (sym (length-map b value) ∙ e))) refl
