-- A well-formed block, clause by clause: each clause of the definition as a fact, and the definition from all of them. The chain of
-- tests holds exactly if each test does, and a test of every lookup or lit slot exactly if it does at each. Assumes nothing.
use Rattle.std.specs.Prelude.{ℕ, ◌+◌, ◌-◌, ◌<◌, ◌≡◌, Bool, true, ◌||◌, not, List, [], ◌∷◌, leb}
use Rattle.std.proofs.Math.Dec.{ltb, eqb}
use Rattle.lighting.specs.Forms.{every}
use Rattle.lighting.specs.Lighting.{slot_of}
use Rattle.block.specs.Block.{from, lookup_at, slot_at, zeros, each_lookup, each_lit, bit_at, bump_formed, shadow_formed, scale_formed, padding_zero, float_formed, well_formed}
use Rattle.block.specs.TestLaws.{◌also◌, chain_first, chain_part, every_one, every_of}

-- every clause but that on NaN
pub record Shaped (w : ℕ → ℕ) : Type 0 where
  pub some : leb 1 (w 1) ≡ true
  pub few : leb (w 1) 8 ≡ true
  pub config : ltb (w 0) 16 ≡ true
  pub bump : bump_formed (w 2) ≡ true
  pub shadow : shadow_formed (w 3) ≡ true
  pub presence : (k : ℕ) → k < 7 → ltb (w (lookup_at k + 0)) 2 ≡ true
  pub input : (k : ℕ) → k < 7 → ltb (w (lookup_at k + 1)) 8 ≡ true
  pub absolute : (k : ℕ) → k < 7 → ltb (w (lookup_at k + 2)) 2 ≡ true
  pub fresnel_primary : ltb (w 4) 2 ≡ true
  pub fresnel_secondary : ltb (w 5) 2 ≡ true
  pub clamp : ltb (w 6) 2 ≡ true
  pub needs : ltb (w 7) 4 ≡ true
  pub flags : (s : ℕ) → s < w 1 → ltb (w (slot_at (slot_of s) + 32)) 128 ≡ true
  pub half_view : (not (bit_at (w 7) 1) || bit_at (w 7) 2) ≡ true
  pub spotlight : eqb (w 32) 1 ≡ true
  pub scale : (k : ℕ) → k < 7 → scale_formed (w (lookup_at k + 3)) ≡ true
  pub missing : (k : ℕ) → k < 7 → (eqb (w (lookup_at k + 0)) 1 || zeros (from w (lookup_at k)) 1 3) ≡ true
  pub without : (s : ℕ) → s < w 1 → (bit_at (w (slot_at (slot_of s) + 32)) 16 || zeros (from w (slot_at (slot_of s))) 28 2) ≡ true
  pub number : (s : ℕ) → s < w 1 → ltb (w (slot_at (slot_of s) + 33)) 8 ≡ true
  pub head_padding : eqb (w 39) 0 ≡ true
  pub padding : (s : ℕ) → s < w 1 → padding_zero (from w (slot_at (slot_of s))) ≡ true
  pub unused : (k : ℕ) → k < 328 - slot_at (slot_of (w 1)) → eqb (w (slot_at (slot_of (w 1)) + k)) 0 ≡ true

pub record Formed (w : ℕ → ℕ) : Type 0 where
  pub shape : Shaped w
  pub floats : (i : ℕ) → i < 328 → float_formed (w i) ≡ true

module _ (w : ℕ → ℕ) where
  abbrev lookups : ((ℕ → ℕ) → Bool) → ℕ → Bool
  lookups p k = p (from w (lookup_at k))

  abbrev lit : ((ℕ → ℕ) → Bool) → ℕ → Bool
  lit p s = p (from w (slot_at (slot_of s)))

  -- the clauses after the first, in order
  abbrev clauses : List Bool
  clauses =
      leb (w 1) 8
      ∷ ltb (w 0) 16
      ∷ bump_formed (w 2)
      ∷ shadow_formed (w 3)
      ∷ every 7 (lookups (λ v. ltb (v 0) 2))
      ∷ every 7 (lookups (λ v. ltb (v 1) 8))
      ∷ every 7 (lookups (λ v. ltb (v 2) 2))
      ∷ ltb (w 4) 2
      ∷ ltb (w 5) 2
      ∷ ltb (w 6) 2
      ∷ ltb (w 7) 4
      ∷ every (w 1) (lit (λ v. ltb (v 32) 128))
      ∷ (not (bit_at (w 7) 1) || bit_at (w 7) 2)
      ∷ eqb (w 32) 1
      ∷ every 7 (lookups (λ v. scale_formed (v 3)))
      ∷ every 7 (lookups (λ v. eqb (v 0) 1 || zeros v 1 3))
      ∷ every (w 1) (lit (λ v. bit_at (v 32) 16 || zeros v 28 2))
      ∷ every (w 1) (lit (λ v. ltb (v 33) 8))
      ∷ eqb (w 39) 0
      ∷ every (w 1) (lit padding_zero)
      ∷ every (328 - slot_at (slot_of (w 1))) (λ k. eqb (w (slot_at (slot_of (w 1)) + k)) 0)
      ∷ every 328 (λ i. float_formed (w i))
      ∷ []

  pub formed_parts : well_formed w ≡ true → Formed w
  unfolding well_formed each_lookup each_lit zeros
  formed_parts h =
      let c = chain_part (leb 1 (w 1)) clauses h in
      record {
        shape = record {
          some = chain_first (leb 1 (w 1)) clauses h;
          few = c 0;
          config = c 1;
          bump = c 2;
          shadow = c 3;
          presence = λ k m. every_one 7 (lookups (λ v. ltb (v 0) 2)) k (c 4) m;
          input = λ k m. every_one 7 (lookups (λ v. ltb (v 1) 8)) k (c 5) m;
          absolute = λ k m. every_one 7 (lookups (λ v. ltb (v 2) 2)) k (c 6) m;
          fresnel_primary = c 7;
          fresnel_secondary = c 8;
          clamp = c 9;
          needs = c 10;
          flags = λ s m. every_one (w 1) (lit (λ v. ltb (v 32) 128)) s (c 11) m;
          half_view = c 12;
          spotlight = c 13;
          scale = λ k m. every_one 7 (lookups (λ v. scale_formed (v 3))) k (c 14) m;
          missing = λ k m. every_one 7 (lookups (λ v. eqb (v 0) 1 || zeros v 1 3)) k (c 15) m;
          without = λ s m. every_one (w 1) (lit (λ v. bit_at (v 32) 16 || zeros v 28 2)) s (c 16) m;
          number = λ s m. every_one (w 1) (lit (λ v. ltb (v 33) 8)) s (c 17) m;
          head_padding = c 18;
          padding = λ s m. every_one (w 1) (lit padding_zero) s (c 19) m;
          unused = λ k m. every_one (328 - slot_at (slot_of (w 1))) (λ j. eqb (w (slot_at (slot_of (w 1)) + j)) 0) k (c 20) m;
        };
        floats = λ i m. every_one 328 (λ j. float_formed (w j)) i (c 21) m;
      }

  pub formed_made : Formed w → well_formed w ≡ true
  unfolding well_formed each_lookup each_lit zeros
  formed_made f =
      f.shape.some
      also f.shape.few
      also f.shape.config
      also f.shape.bump
      also f.shape.shadow
      also every_of 7 (lookups (λ v. ltb (v 0) 2)) f.shape.presence
      also every_of 7 (lookups (λ v. ltb (v 1) 8)) f.shape.input
      also every_of 7 (lookups (λ v. ltb (v 2) 2)) f.shape.absolute
      also f.shape.fresnel_primary
      also f.shape.fresnel_secondary
      also f.shape.clamp
      also f.shape.needs
      also every_of (w 1) (lit (λ v. ltb (v 32) 128)) f.shape.flags
      also f.shape.half_view
      also f.shape.spotlight
      also every_of 7 (lookups (λ v. scale_formed (v 3))) f.shape.scale
      also every_of 7 (lookups (λ v. eqb (v 0) 1 || zeros v 1 3)) f.shape.missing
      also every_of (w 1) (lit (λ v. bit_at (v 32) 16 || zeros v 28 2)) f.shape.without
      also every_of (w 1) (lit (λ v. ltb (v 33) 8)) f.shape.number
      also f.shape.head_padding
      also every_of (w 1) (lit padding_zero) f.shape.padding
      also every_of (328 - slot_at (slot_of (w 1))) (λ k. eqb (w (slot_at (slot_of (w 1)) + k)) 0) f.shape.unused
      also every_of 328 (λ i. float_formed (w i)) f.floats
