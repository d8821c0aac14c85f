-- What was packed and copied, put together. A number other than 0 tells that the lighting was not packed, and then nothing was taken; 0 tells that it
-- was, and the tables are copied where the generations differ. Assumes nothing.
use Rattle.std.proofs.Common.{◌≡◌, ℕ, List, length, Bool, true, false, cond, eqb, Option, Some, refl, ap, arith, eq-eqb, ne_eqb}
use Rattle.refusals.specs.Refusals.{block_refusal, number_of}
use Rattle.refusals.specs.declared.Refusal.{Refusal}
use Rattle.lighting.specs.declared.Lighting.{Lighting}
use Rattle.block.specs.Block.{packed, Packing, packing, accepted, lighting_refusal, pack_refusal, packed_reading, packs}
use Rattle.unit.specs.Unit.{packable}
use Rattle.tables.specs.RefusalLaws.{refusal_not_zero}
use Rattle.unit.specs.Steps.{packs_reading, takes, took}

-- `pack` on a lighting that is on
pub pack_on : (l : Lighting) (b : List ℕ) → length b ≡ 328 → packs l b ≡ packs_reading (Some l) b
unfolding packs pack_refusal lighting_refusal block_refusal packs_reading packable packed_reading
pack_on l b n = rw (eq-eqb (length b) 328 n) (go (accepted l))
  where
    go : (x : Bool) → packing (cond x 0 7) (cond (eqb (cond x 0 7) 0) (packed l) b) ≡ cond x (packing 0 (packed l)) (packing 7 b)
    go true = refl
    go false = refl

module _ (d : Option Lighting) (t : List ℕ) (g : ℕ) (b ct : List ℕ) (cg : ℕ) (x : List ℕ) where
  pub refused_takes : (k : Refusal) → packing (number_of k) x ≡ packs_reading d b → took (number_of k) x ct ≡ takes d t g b ct cg
  unfolding packs_reading takes
  refused_takes k e = go (packable d) e
    where
      go : (p : Bool) → packing (number_of k) x ≡ cond p (packing 0 (packed_reading d)) (packing 7 b) → took (number_of k) x ct ≡ cond p (took 0 (packed_reading d) (cond (eqb g cg) ct t)) (took 7 b ct)
      go true q = absurd (refusal_not_zero k (ap (λ (w : Packing). w.number) q))
      go false q = ap (λ (w : Packing). took w.number w.block ct) q

  done_takes : packing 0 x ≡ packs_reading d b → took 0 x (cond (eqb g cg) ct t) ≡ takes d t g b ct cg
  unfolding packs_reading takes
  done_takes e = go (packable d) e
    where
      go : (p : Bool) → packing 0 x ≡ cond p (packing 0 (packed_reading d)) (packing 7 b) → took 0 x (cond (eqb g cg) ct t) ≡ cond p (took 0 (packed_reading d) (cond (eqb g cg) ct t)) (took 7 b ct)
      go true q = ap (λ (w : Packing). took w.number w.block (cond (eqb g cg) ct t)) q
      go false q = absurd (omega (arith, ap (λ (w : Packing). w.number) q))

  -- at equal generations the copy's tables stay
  pub same_takes : g ≡ cg → packing 0 x ≡ packs_reading d b → took 0 x ct ≡ takes d t g b ct cg
  same_takes q e = rw (eq-eqb g cg q) at (done_takes e)

  -- else they are the unit's
  pub other_takes : (g ≡ cg → ⊥) → packing 0 x ≡ packs_reading d b → took 0 x t ≡ takes d t g b ct cg
  other_takes q e = rw (ne_eqb g cg q) at (done_takes e)
