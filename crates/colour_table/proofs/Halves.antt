-- A word of the list is a half of its pair: pairing puts the first of two below 2 ^ 32 and the second above, and both are below it, which one test over the list
-- shows. Assumes nothing.
use Prim.Native.Nat.{ℕ, zero, suc, ◌+◌, ◌*◌, ◌/◌, ◌%◌, ◌^◌, ◌<◌}
use native.Mathlib.Omega.{arith}
use mathlib.Core.Path.{◌≡◌, refl, ap, ◌∙◌, subst}
use mathlib.Core.Bool.{Bool, true, false, not, ◌&&◌}
use mathlib.Core.List.{List, [], ◌∷◌}
use lib.Dec.{T, ltb}
use lib.ListN.{get_or}
use borrow.Author.Tests.{ltb-true}
use Rattle.std.proofs.lemmas.Bool.{and_parts}
use Rattle.quotients.specs.Steps.{quotient_words}
use Rattle.colour_table.specs.Steps.{pairs_of, quotient_pairs}

-- two at a time, each below 2 ^ 32
abbrev narrow : List ℕ → Bool
narrow [] = true
narrow (a ∷ []) = false
narrow (a ∷ b ∷ ws) = ltb a 0x100000000 && (ltb b 0x100000000 && narrow ws)

never : false ≡ true → ⊥
never h = subst (λ (b : Bool). T (not b)) h tt

low : (a b : ℕ) → a < 0x100000000 → (a + b * 0x100000000) / 1 % 0x100000000 ≡ a
low a b h = omega arith

high : (a b : ℕ) → a < 0x100000000 → b < 0x100000000 → (a + b * 0x100000000) / 0x100000000 % 0x100000000 ≡ b
high a b h k = omega arith

-- where the words of pair i stand
abbrev place : ℕ → ℕ → ℕ
place zero p = p
place (suc i) p = suc (suc (place i p))

place_is : (i p : ℕ) → place i p ≡ i * 2 + p
place_is zero p = omega arith
place_is (suc i) p = ap (λ (n : ℕ). suc (suc n)) (place_is i p) ∙ omega arith

past : {A : Type 0} (p : ℕ) → suc (suc p) < 2 → A
past p h = absurd (omega arith)

half : (ws : List ℕ) (i p : ℕ) → narrow ws ≡ true → p < 2 → get_or (pairs_of ws) i 0 / 2 ^ (p * 32) % 0x100000000 ≡ get_or ws (place i p) 0
unfolding pairs_of
half [] i zero t h = refl
half [] i (suc zero) t h = refl
half [] i (suc (suc p)) t h = past p h
half (a ∷ []) i p t h = absurd (never t)
half (a ∷ b ∷ ws) zero zero t h = low a b (ltb-true a 0x100000000 (and_parts (ltb a 0x100000000) _ t).0)
half (a ∷ b ∷ ws) zero (suc zero) t h =
    high a b (ltb-true a 0x100000000 (and_parts (ltb a 0x100000000) _ t).0) (ltb-true b 0x100000000 (and_parts (ltb b 0x100000000) _ (and_parts (ltb a 0x100000000) _ t).1).0)
half (a ∷ b ∷ ws) zero (suc (suc p)) t h = past p h
half (a ∷ b ∷ ws) (suc i) p t h = half ws i p (and_parts (ltb b 0x100000000) _ (and_parts (ltb a 0x100000000) _ t).1).1 h

all_narrow : narrow quotient_words ≡ true
unfolding quotient_words
all_narrow = refl

pub half_is : (v : ℕ) → get_or quotient_pairs (v / 2 % 512) 0 / 2 ^ (v % 2 * 32) % 0x100000000 ≡ get_or quotient_words (v % 1024) 0
unfolding quotient_pairs
half_is v =
    half quotient_words (v / 2 % 512) (v % 2) all_narrow (omega arith)
    ∙ ap (λ (k : ℕ). get_or quotient_words k 0) (place_is (v / 2 % 512) (v % 2) ∙ omega arith)
