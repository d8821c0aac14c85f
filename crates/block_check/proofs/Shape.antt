-- A block has the right shape exactly if its count, unused slots, head and lit slots have. The clauses of the definition are those of the
-- parts, taken in another order. Assumes nothing.
use Prim.Native.Nat.{ℕ, zero, suc, ◌+◌, ◌-◌, ◌<◌}
use native.Mathlib.Omega.{arith}
use mathlib.Core.Path.{◌≡◌, refl, sym, ◌∙◌}
use mathlib.Core.Bool.{Bool, true, not, ◌&&◌, ◌||◌}
use mathlib.Core.List.{List, [], ◌∷◌}
use lib.Dec.{ltb, leb, eqb}
use lib.ListN.{get_or}
use borrow.Author.Tests.{ltb-true}
use Rattle.std.proofs.lemmas.Bool.{and_parts}
use Rattle.lighting.specs.Forms.{every}
use Rattle.lighting.specs.Lighting.{slot_of}
use Rattle.block.specs.Block.{from, lookup_at, slot_at, zeros, bit_at, bump_formed, shadow_formed, scale_formed, padding_zero}
use Rattle.block.specs.TestLaws.{◌also◌, chain_first, chain_part, every_one, every_of}
use Rattle.block.specs.FormedLaws.{Shaped}
use Rattle.block_check.specs.Steps.{options_formed, lookup_formed, lookups_formed, head_formed, vectors_padded, light_padded, light_formed, lights_formed}

-- a lookup

record Lookup (v : ℕ → ℕ) : Type 0 where
  presence : ltb (v 0) 2 ≡ true
  input : ltb (v 1) 8 ≡ true
  absolute : ltb (v 2) 2 ≡ true
  scale : scale_formed (v 3) ≡ true
  missing : (eqb (v 0) 1 || zeros v 1 3) ≡ true

lookup_parts : (v : ℕ → ℕ) → lookup_formed v ≡ true → Lookup v
unfolding lookup_formed
lookup_parts v h =
    let cs : List Bool = ltb (v 1) 8 ∷ ltb (v 2) 2 ∷ scale_formed (v 3) ∷ (eqb (v 0) 1 || zeros v 1 3) ∷ [] in
    let c : (i : ℕ) → get_or cs i true ≡ true = chain_part (ltb (v 0) 2) cs h in
    record { presence = chain_first (ltb (v 0) 2) cs h; input = c 0; absolute = c 1; scale = c 2; missing = c 3 }

lookup_made : (v : ℕ → ℕ) → Lookup v → lookup_formed v ≡ true
unfolding lookup_formed
lookup_made v f = f.presence also f.input also f.absolute also f.scale also f.missing

-- the needs: 1 is half without view

half_view : (n : ℕ) → n < 4 → (not (bit_at n 1) || bit_at n 2) ≡ not (eqb n 1)
half_view zero h = refl
half_view (suc zero) h = refl
half_view (suc (suc zero)) h = refl
half_view (suc (suc (suc zero))) h = refl
half_view (suc (suc (suc (suc n)))) h = absurd (omega arith)

-- a lit slot

light_is : (v : ℕ → ℕ) → (padding_zero v ≡ true) → (ltb (v 32) 128 ≡ true) → (ltb (v 33) 8 ≡ true) → ((bit_at (v 32) 16 || zeros v 28 2) ≡ true) → light_formed v ≡ true
unfolding light_formed light_padded vectors_padded padding_zero zeros every
light_is v p f n d =
    let cs : List Bool = eqb (v 7) 0 ∷ eqb (v 11) 0 ∷ eqb (v 15) 0 ∷ eqb (v 19) 0 ∷ eqb (v 23) 0 ∷ eqb (v 27) 0 ∷ (eqb (v 30) 0 && eqb (v 31) 0) ∷ (eqb (v 34) 0 && eqb (v 35) 0) ∷ [] in
    let c : (i : ℕ) → get_or cs i true ≡ true = chain_part (eqb (v 3) 0) cs p in
    chain_first (eqb (v 3) 0) cs p
    also c 0
    also c 1
    also c 2
    also c 3
    also c 4
    also c 5
    also (and_parts (eqb (v 30) 0) (eqb (v 31) 0) (c 6)).0
    also (and_parts (eqb (v 30) 0) (eqb (v 31) 0) (c 6)).1
    also (and_parts (eqb (v 34) 0) (eqb (v 35) 0) (c 7)).0
    also (and_parts (eqb (v 34) 0) (eqb (v 35) 0) (c 7)).1
    also d
    also f
    also n

pub record Light (v : ℕ → ℕ) : Type 0 where
  pub padding : padding_zero v ≡ true
  pub flags : ltb (v 32) 128 ≡ true
  pub number : ltb (v 33) 8 ≡ true
  pub without : (bit_at (v 32) 16 || zeros v 28 2) ≡ true

pub light_parts : (v : ℕ → ℕ) → light_formed v ≡ true → Light v
unfolding light_formed light_padded vectors_padded padding_zero zeros every
light_parts v h =
    let cs : List Bool = eqb (v 7) 0 ∷ eqb (v 11) 0 ∷ eqb (v 15) 0 ∷ eqb (v 19) 0 ∷ eqb (v 23) 0 ∷ eqb (v 27) 0 ∷ eqb (v 30) 0 ∷ eqb (v 31) 0 ∷ eqb (v 34) 0 ∷ eqb (v 35) 0 ∷ (bit_at (v 32) 16 || (eqb (v 28) 0 && eqb (v 29) 0)) ∷ ltb (v 32) 128 ∷ ltb (v 33) 8 ∷ [] in
    let c : (i : ℕ) → get_or cs i true ≡ true = chain_part (eqb (v 3) 0) cs h in
    record {
      padding = chain_first (eqb (v 3) 0) cs h also c 0 also c 1 also c 2 also c 3 also c 4 also c 5 also (c 6 also c 7) also (c 8 also c 9);
      flags = c 11;
      number = c 12;
      without = c 10;
    }

-- the last two words
pub light_end : (v : ℕ → ℕ) → light_formed v ≡ true → zeros v 34 2 ≡ true
unfolding padding_zero
light_end v h =
    let front = eqb (v 3) 0 && eqb (v 7) 0 && eqb (v 11) 0 && eqb (v 15) 0 && eqb (v 19) 0 && eqb (v 23) 0 && eqb (v 27) 0 && zeros v 30 2 in
    (and_parts front (zeros v 34 2) (light_parts v h).padding).1

-- the parts of a block

module _ (w : ℕ → ℕ) where
  abbrev options : List Bool
  options = bump_formed (w 2) ∷ shadow_formed (w 3) ∷ ltb (w 4) 2 ∷ ltb (w 5) 2 ∷ ltb (w 6) 2 ∷ ltb (w 7) 4 ∷ not (eqb (w 7) 1) ∷ []

  pub lights_of_shape : Shaped w → lights_formed w (w 1) ≡ true
  unfolding lights_formed
  lights_of_shape f = every_of (w 1) (λ s. light_formed (from w (slot_at (slot_of s)))) (λ s h. light_is (from w (slot_at (slot_of s))) (f.padding s h) (f.flags s h) (f.number s h) (f.without s h))

  options_of_shape : Shaped w → options_formed w ≡ true
  unfolding options_formed
  options_of_shape f =
      f.config
      also f.bump
      also f.shadow
      also f.fresnel_primary
      also f.fresnel_secondary
      also f.clamp
      also f.needs
      also (sym (half_view (w 7) (ltb-true (w 7) 4 f.needs)) ∙ f.half_view)

  lookups_of_shape : Shaped w → lookups_formed w 7 ≡ true
  unfolding lookups_formed
  lookups_of_shape f =
      every_of 7 (λ k. lookup_formed (from w (lookup_at k)))
      (λ k h. lookup_made (from w (lookup_at k)) (record { presence = f.presence k h; input = f.input k h; absolute = f.absolute k h; scale = f.scale k h; missing = f.missing k h }))

  pub head_of_shape : Shaped w → head_formed w ≡ true
  unfolding head_formed
  head_of_shape f = options_of_shape f also lookups_of_shape f also f.spotlight also f.head_padding

  pub unused_of_shape : Shaped w → zeros w (slot_at (slot_of (w 1))) (328 - slot_at (slot_of (w 1))) ≡ true
  unfolding zeros
  unused_of_shape f = every_of (328 - slot_at (slot_of (w 1))) (λ k. eqb (w (slot_at (slot_of (w 1)) + k)) 0) f.unused

  pub shape_made : leb 1 (w 1) ≡ true → leb (w 1) 8 ≡ true → zeros w (slot_at (slot_of (w 1))) (328 - slot_at (slot_of (w 1))) ≡ true → head_formed w ≡ true → lights_formed w (w 1) ≡ true → Shaped w
  unfolding head_formed options_formed lookups_formed lights_formed zeros
  shape_made some few unused head lights =
      let hs : List Bool = every 7 (λ k. lookup_formed (from w (lookup_at k))) ∷ eqb (w 32) 1 ∷ eqb (w 39) 0 ∷ [] in
      let s : options_formed w ≡ true = chain_first (options_formed w) hs head in
      let c : (i : ℕ) → get_or options i true ≡ true = chain_part (ltb (w 0) 16) options s in
      let look : (k : ℕ) → k < 7 → Lookup (from w (lookup_at k)) =
      λ k h. lookup_parts (from w (lookup_at k)) (every_one 7 (λ j. lookup_formed (from w (lookup_at j))) k (chain_part (options_formed w) hs head 0) h) in
      let lit : (k : ℕ) → k < w 1 → Light (from w (slot_at (slot_of k))) =
      λ k h. light_parts (from w (slot_at (slot_of k))) (every_one (w 1) (λ j. light_formed (from w (slot_at (slot_of j)))) k lights h) in
      record {
        some = some;
        few = few;
        config = chain_first (ltb (w 0) 16) options s;
        bump = c 0;
        shadow = c 1;
        presence = λ k h. (look k h).presence;
        input = λ k h. (look k h).input;
        absolute = λ k h. (look k h).absolute;
        fresnel_primary = c 2;
        fresnel_secondary = c 3;
        clamp = c 4;
        needs = c 5;
        flags = λ k h. (lit k h).flags;
        half_view = half_view (w 7) (ltb-true (w 7) 4 (c 5)) ∙ c 6;
        spotlight = chain_part (options_formed w) hs head 1;
        scale = λ k h. (look k h).scale;
        missing = λ k h. (look k h).missing;
        without = λ k h. (lit k h).without;
        number = λ k h. (lit k h).number;
        head_padding = chain_part (options_formed w) hs head 2;
        padding = λ k h. (lit k h).padding;
        unused = λ k h. every_one (328 - slot_at (slot_of (w 1))) (λ j. eqb (w (slot_at (slot_of (w 1)) + j)) 0) k unused h;
      }
