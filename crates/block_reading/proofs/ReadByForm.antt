-- The answers of `read_block`, by the block's length and the form that the check found. The form, the refusal and the reading are decided by the same tests of
-- the block. Assumes nothing.
use Rattle.std.specs.Prelude.{ℕ, ◌≡◌, List, length}
use Rattle.std.proofs.Common.{refl, subst}
use borrow.Author.Tests.{eq-eqb, ne_eqb}
use Rattle.refusals.specs.Refusals.{block_refusal}
use Rattle.lighting.specs.declared.Lighting.{Lighting}
use Rattle.lighting.specs.Lighting.{off, on}
use Rattle.block.specs.declared.BlockForm.TheVariants.{Off, NotWellFormed}
use Rattle.block.specs.Block.{words, block_lighting, block_answer, read_refusal, block_read}
use Rattle.block.specs.Steps.{block_form}
use Rattle.block_reading.specs.FormLaws.{Lit, off_passes, off_reads, bad_refused}

module _ (b : List ℕ) where
  pub wrong_length : (length b ≡ 328 → ⊥) → block_answer 6 off ≡ block_read b
  unfolding block_read read_refusal block_refusal
  wrong_length n = rw (ne_eqb (length b) 328 n) refl

  module _ (e : length b ≡ 328) where
    pub off_read : block_form b ≡ Off → block_answer 0 off ≡ block_read b
    unfolding block_read read_refusal block_refusal
    off_read f = rw (eq-eqb (length b) 328 e, off_passes b f, off_reads b f) refl

    pub bad_read : block_form b ≡ NotWellFormed → block_answer 7 off ≡ block_read b
    unfolding block_read read_refusal block_refusal
    bad_read f = rw (eq-eqb (length b) 328 e, bad_refused b e f) refl

    -- with the words as they were checked
    pub lit_read : (v ws : List ℕ) (l : Lighting) → v ≡ b → ws ≡ v → Lit v → l ≡ block_lighting (words ws) → block_answer 0 (on l) ≡ block_read b
    unfolding block_read read_refusal block_refusal
    lit_read v ws l p q f r = let g : Lit b = subst Lit p f in rw (eq-eqb (length b) 328 e, g.passes, g.reads, r, q, p) refl
