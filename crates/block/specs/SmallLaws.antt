-- Where a block of the right shape can hold a NaN: the words before 36 are small, and those from the first unused slot on are zero, so
-- only the global ambient and the lit slots are left. Assumes nothing.
use Rattle.std.specs.Prelude.{ℕ, zero, suc, ◌+◌, ◌-◌, ◌/◌, ◌%◌, ◌<◌, ◌≤◌, ◌≡◌, refl, Bool, true, false, ltb}
use Rattle.std.proofs.Common.{arith, sym, ap, subst, ◌∙◌, eqb-true, ltb-true, ltb-false, leb-true}
use Rattle.lighting.specs.Lighting.{slot_of}
use Rattle.block.specs.Block.{lookup_at, slot_at}
use Rattle.block.specs.FormedLaws.{Shaped}
use Rattle.block.specs.WordLaws.{bump_small, shadow_small, scale_small}

module _ (w : ℕ → ℕ) (f : Shaped w) where
  lookup_small : (k r : ℕ) → k < 7 → r < 4 → w (lookup_at k + r) ≤ 0x7F80_0000
  lookup_small k zero h m = omega (arith, ltb-true (w (lookup_at k + 0)) 2 (f.presence k h))
  lookup_small k (suc zero) h m = omega (arith, ltb-true (w (lookup_at k + 1)) 8 (f.input k h))
  lookup_small k (suc (suc zero)) h m = omega (arith, ltb-true (w (lookup_at k + 2)) 2 (f.absolute k h))
  lookup_small k (suc (suc (suc zero))) h m = omega (arith, scale_small (w (lookup_at k + 3)) (f.scale k h))
  lookup_small k (suc (suc (suc (suc r)))) h m = absurd (omega arith)

  first_small : (i : ℕ) → i < 8 → w i ≤ 0x7F80_0000
  first_small zero h = omega (arith, ltb-true (w 0) 16 f.config)
  first_small (suc zero) h = omega (arith, leb-true (w 1) 8 f.few)
  first_small (suc (suc zero)) h = omega (arith, bump_small (w 2) f.bump)
  first_small (suc (suc (suc zero))) h = omega (arith, shadow_small (w 3) f.shadow)
  first_small (suc (suc (suc (suc zero)))) h = omega (arith, ltb-true (w 4) 2 f.fresnel_primary)
  first_small (suc (suc (suc (suc (suc zero))))) h = omega (arith, ltb-true (w 5) 2 f.fresnel_secondary)
  first_small (suc (suc (suc (suc (suc (suc zero)))))) h = omega (arith, ltb-true (w 6) 2 f.clamp)
  first_small (suc (suc (suc (suc (suc (suc (suc zero))))))) h = omega (arith, ltb-true (w 7) 4 f.needs)
  first_small (suc (suc (suc (suc (suc (suc (suc (suc i)))))))) h = absurd (omega arith)

  head_small : (i : ℕ) → i < 36 → w i ≤ 0x7F80_0000
  head_small i h = go (ltb i 8) refl
    where
      go : (b : Bool) → ltb i 8 ≡ b → w i ≤ 0x7F80_0000
      go true q = first_small i (ltb-true i 8 q)
      go false q =
          let k : 8 ≤ i = ltb-false i 8 q in
          let e : lookup_at ((i - 8) / 4) + (i - 8) % 4 ≡ i = omega arith in
          subst (λ (j : ℕ). w j ≤ 0x7F80_0000) e (lookup_small ((i - 8) / 4) ((i - 8) % 4) (omega arith) (omega arith))

  pub unused_zero : (i : ℕ) → slot_at (slot_of (w 1)) ≤ i → i < 328 → w i ≡ 0
  unused_zero i h k =
      let e : slot_at (slot_of (w 1)) + (i - slot_at (slot_of (w 1))) ≡ i = omega arith in
      ap w (sym e) ∙ eqb-true (w (slot_at (slot_of (w 1)) + (i - slot_at (slot_of (w 1))))) 0 (f.unused (i - slot_at (slot_of (w 1))) (omega arith))

  -- a test that small words pass holds of every word if it does from 36 to the end of the lit slots
  pub passes : (p : ℕ → Bool) → ((n : ℕ) → n ≤ 0x7F80_0000 → p n ≡ true) → ((i : ℕ) → 36 ≤ i → i < slot_at (slot_of (w 1)) → p (w i) ≡ true)
      → (i : ℕ) → i < 328 → p (w i) ≡ true
  passes p small lit i h = go (ltb i 36) (ltb i (slot_at (slot_of (w 1)))) refl refl
    where
      go : (a b : Bool) → ltb i 36 ≡ a → ltb i (slot_at (slot_of (w 1))) ≡ b → p (w i) ≡ true
      go true b d e = small (w i) (head_small i (ltb-true i 36 d))
      go false true d e = lit i (ltb-false i 36 d) (ltb-true i (slot_at (slot_of (w 1))) e)
      go false false d e = ap p (unused_zero i (ltb-false i (slot_at (slot_of (w 1))) e) h) ∙ small 0 (omega arith)
