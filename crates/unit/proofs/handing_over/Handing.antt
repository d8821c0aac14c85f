-- What a hand-over answers, from what the copy took. A number other than 0 tells that the lighting was not packed, and then nothing was taken and the
-- cache is the one before; 0 tells that it was packed. Assumes nothing.
use Rattle.std.proofs.Common.{◌≡◌, ℕ, List, length, Bool, true, false, cond, eqb, refl, sym, ap, subst, ◌∙◌, arith, eqb-true}
use Rattle.refusals.specs.Refusals.{number_of}
use Rattle.refusals.specs.declared.Refusal.{Refusal}
use Rattle.block.specs.Block.{packed_reading}
use Rattle.unit.specs.declared.Cache.{Cache}
use Rattle.unit.specs.Unit.{current, read_anew, refreshed, Handed, handed, hand_over_refusal, packable, taken, hand_over_read, hand_over_if, hand_over}
use Rattle.tables.specs.RefusalLaws.{refusal_not_zero}
use Rattle.block.specs.TestLaws.{never}
use Rattle.unit.specs.DecodedLaws.{decoded_packable}
use Rattle.unit.specs.HandOverLaws.{by_number}
use Rattle.unit.specs.Steps.{Took, took, takes}

-- a lighting that can't be packed was kept, since a decoded one always can
pub refused_stays : (f : List ℕ) (c n : Cache) → refreshed f c ≡ n → packable n.decoded ≡ false → n ≡ c
unfolding refreshed read_anew
refused_stays f c n r = subst (λ (m : Cache). packable m.decoded ≡ false → m ≡ c) r (go (current f c))
  where
    go : (x : Bool) → packable (cond x c (read_anew f)).decoded ≡ false → cond x c (read_anew f) ≡ c
    go true e = refl
    go false e = never (sym e ∙ decoded_packable f)

module _ (n : Cache) (t : List ℕ) (g : ℕ) (c : Cache) (b ct : List ℕ) (cg : ℕ) (x y : List ℕ) where
  pub refused_hands : (packable n.decoded ≡ false → n ≡ c) → (k : Refusal) → took (number_of k) x y ≡ takes n.decoded t g b ct cg → handed (number_of k) n x y cg ≡ hand_over_read n t g c b ct cg
  unfolding takes hand_over_read
  refused_hands s k e = go (packable n.decoded) s e
    where
      go : (p : Bool) → (p ≡ false → n ≡ c) → took (number_of k) x y ≡ cond p (took 0 (packed_reading n.decoded) (cond (eqb g cg) ct t)) (took 7 b ct) → handed (number_of k) n x y cg ≡ cond p (taken n t g ct cg) (handed 7 c b ct cg)
      go true s q = absurd (refusal_not_zero k (ap (λ (w : Took). w.number) q))
      go false s q = ap (λ (m : Cache). handed (number_of k) m x y cg) (s refl) ∙ ap (λ (w : Took). handed w.number c w.block w.tables cg) q

  -- at equal generations the copy's tables and generation stay
  same_taken : handed 0 n (packed_reading n.decoded) (cond (eqb g cg) ct t) g ≡ taken n t g ct cg
  unfolding taken
  same_taken = go (eqb g cg) refl
    where
      go : (p : Bool) → eqb g cg ≡ p → handed 0 n (packed_reading n.decoded) (cond p ct t) g ≡ cond p (handed 0 n (packed_reading n.decoded) ct cg) (handed 0 n (packed_reading n.decoded) t g)
      go true q = ap (λ (h : ℕ). handed 0 n (packed_reading n.decoded) ct h) (eqb-true g cg q)
      go false q = refl

  -- 0 is answered only where the lighting is packed
  pub done_hands : took 0 x y ≡ takes n.decoded t g b ct cg → handed 0 n x y g ≡ hand_over_read n t g c b ct cg
  unfolding takes hand_over_read
  done_hands e = go (packable n.decoded) e
    where
      go : (p : Bool) → took 0 x y ≡ cond p (took 0 (packed_reading n.decoded) (cond (eqb g cg) ct t)) (took 7 b ct) → handed 0 n x y g ≡ cond p (taken n t g ct cg) (handed 7 c b ct cg)
      go true q = ap (λ (w : Took). handed 0 n w.block w.tables g) q ∙ same_taken
      go false q = absurd (omega (arith, ap (λ (w : Took). w.number) q))

-- the length refusals, and what is left past them
module _ (f t : List ℕ) (g : ℕ) (c : Cache) (b ct : List ℕ) (cg : ℕ) where
  pub by_length : (k : Refusal) → number_of k ≡ hand_over_refusal (length f) (length t) (length ct) (length b) → handed (number_of k) c b ct cg ≡ hand_over f t g c b ct cg
  unfolding hand_over_if
  by_length k e =
      by_number (λ q. handed q c b ct cg) (λ q. hand_over_if q f t g c b ct cg) (λ q. refl) k (hand_over_refusal (length f) (length t) (length ct) (length b)) e

  pub by_read : (n : Cache) {w : Handed Cache} → 0 ≡ hand_over_refusal (length f) (length t) (length ct) (length b) → refreshed f c ≡ n → w ≡ hand_over_read n t g c b ct cg → w ≡ hand_over f t g c b ct cg
  unfolding hand_over_if
  by_read n z r e = rw (← z, r) e

-- the cache n after the read: it is kept where it is current, and else read anew
pub kept_read : (f : List ℕ) (c n : Cache) → current f c ≡ true → n ≡ c → refreshed f c ≡ n
unfolding refreshed
kept_read f c n e h = rw e (sym h)

pub anew_read : (f : List ℕ) (c n : Cache) → current f c ≡ false → n ≡ read_anew f → refreshed f c ≡ n
unfolding refreshed
anew_read f c n e h = rw e (sym h)
