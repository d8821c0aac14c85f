-- A block is all zero exactly when it reads as off. One that isn't is refused or reads as on. Assumes nothing.
use Rattle.std.specs.Prelude.{ℕ, ◌≡◌, refl, Bool, true, false, cond, not, ◌||◌, T, eqb, length, replicate, is_some}
use Rattle.std.proofs.Common.{sym, subst, eq-eqb}
use Rattle.refusals.specs.Refusals.{block_refusal}
use Rattle.lighting.specs.Forms.{every}
use Rattle.lighting.specs.Lighting.{off, on}
use Rattle.block.specs.Block.{words, zeros, all_zero, well_formed, block_lighting, block_reading, words_refusal, BlockAnswer, block_answer, read_refusal, block_read}
use Rattle.block.specs.Claims.{ZeroReadsOff, OffIsZero}
use Rattle.block.proofs.ReadLaws.{all_zero_words}

pub zero_block : all_zero (words (replicate 328 0)) ≡ true
unfolding all_zero zeros every
zero_block = refl

pub zero_reads_off : ZeroReadsOff
unfolding block_read read_refusal block_refusal words_refusal block_reading
zero_reads_off = rw zero_block refl

-- a block that isn't all zero is refused or on
not_off : (x : Bool) (w : ℕ → ℕ) → block_answer (cond x 0 7) (cond (eqb (cond x 0 7) 0) (on (block_lighting w)) off) ≡ block_answer 0 off → ⊥
not_off true w e = subst (λ (r : BlockAnswer). T (is_some r.reading)) e tt
not_off false w e = subst (λ (r : BlockAnswer). T (not (eqb r.number 0))) e tt

pub off_is_zero : OffIsZero
unfolding block_read read_refusal block_refusal words_refusal block_reading
off_is_zero b h e = go (all_zero (words b)) refl (rw (eq-eqb (length b) 328 h) at e)
  where
    go : (x : Bool) → all_zero (words b) ≡ x
        → block_answer (cond (x || well_formed (words b)) 0 7) (cond (eqb (cond (x || well_formed (words b)) 0 7) 0) (cond x off (on (block_lighting (words b)))) off) ≡ block_answer 0 off
        → b ≡ replicate 328 0
    go true z r = sym (all_zero_words b h z)
    go false z r = absurd (not_off (well_formed (words b)) (words b) r)
