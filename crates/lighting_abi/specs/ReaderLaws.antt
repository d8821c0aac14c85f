-- The block reader's number by what the check finds: of a block of another length 6, and else its form leaves one of the reader's answers. Assumes nothing.
use Rattle.std.specs.Prelude.{ℕ, ◌≡◌, refl, Bool, true, false, cond, ◌||◌, List, eqb, length, if◌then◌else◌}
use Rattle.std.proofs.Common.{eq-eqb, ne_eqb}
use Rattle.refusals.specs.Refusals.{block_refusal, ◌else◌}
use Rattle.lighting.specs.Lighting.{off, on}
use Rattle.block.specs.declared.BlockForm.TheVariants.{Off, NotWellFormed, NanFree, WithNan}
use Rattle.block.specs.Block.{words, all_zero, well_formed, block_lighting, block_reading, words_refusal, read_refusal, block_read}
use Rattle.block.specs.Steps.{nan_free, form_of, block_form}
use Rattle.unit.specs.Unit.{read_number}
use Rattle.lighting_abi.specs.Boundary.{block_read_number}
use Rattle.lighting_abi.specs.Steps.{form_number}

pub reader_wrong : (b : List ℕ) → (length b ≡ 328 → ⊥) → 6 ≡ block_read_number b
unfolding block_read_number block_read read_refusal block_refusal
reader_wrong b n = rw (ne_eqb (length b) 328 n) refl

pub reader_form : (b : List ℕ) → length b ≡ 328 → form_number (block_form b) ≡ block_read_number b
unfolding block_read_number block_read read_refusal block_refusal words_refusal block_reading block_form form_of form_number read_number
reader_form b n = rw (eq-eqb (length b) 328 n) (go (all_zero (words b)) (well_formed (words b)) (nan_free (words b)))
  where
    go : (z w p : Bool)
        → form_number (cond z Off (cond w (cond p NanFree WithNan) NotWellFormed))
        ≡ cond (z || w) 0 7 else read_number (if eqb (cond (z || w) 0 7) 0 then (if z then off else on (block_lighting (words b))) else off)
    go true w p = refl
    go false true true = refl
    go false true false = refl
    go false false p = refl
