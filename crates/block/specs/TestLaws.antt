-- Tests joined by `&&`, and tests of every number below another. Each is by cases on a Bool or by induction on the number.
-- Assumes nothing.
use Rattle.std.specs.Cmp.{both_ways}
use Rattle.std.specs.Prelude.{ℕ, zero, suc, ◌<◌, ◌≡◌, refl, Bool, true, false, not, ◌&&◌, ◌||◌, List, [], ◌∷◌, ◌⊎◌, T, eqb, get_or}
use Rattle.std.proofs.Common.{arith, not-suc-le-zero, sym, ap, subst, ◌∙◌, inl, inr, eqb-true}
use Rattle.std.proofs.lemmas.Bool.{eqb-false, and_parts}
use Rattle.lighting.specs.Forms.{every}

-- what is false isn't true
pub never : {X : Type 0} → false ≡ true → X
never e = absurd (subst (λ (x : Bool). T (not x)) e tt)

infixl 35 ◌also◌
pub ◌also◌ : {a b : Bool} → a ≡ true → b ≡ true → (a && b) ≡ true
p also q = rw (p, q) refl

pub or_cases : (a b : Bool) → (a || b) ≡ true → (a ≡ true) ⊎ (b ≡ true)
or_cases true b h = inl refl
or_cases false b h = inr h

pub or_first : (a b : Bool) → a ≡ true → (a || b) ≡ true
or_first a b e = rw e refl

pub or_second : (a b : Bool) → b ≡ true → (a || b) ≡ true
or_second true b e = refl
or_second false b e = e

-- a test and others, as `&&` joins them
abbrev chain : Bool → List Bool → Bool
chain a [] = a
chain a (b ∷ bs) = chain (a && b) bs

pub chain_first : (a : Bool) (bs : List Bool) → chain a bs ≡ true → a ≡ true
chain_first a [] h = h
chain_first a (b ∷ bs) h = (and_parts a b (chain_first (a && b) bs h)).0

pub chain_part : (a : Bool) (bs : List Bool) → chain a bs ≡ true → (i : ℕ) → get_or bs i true ≡ true
chain_part a [] h i = refl
chain_part a (b ∷ bs) h zero = (and_parts a b (chain_first (a && b) bs h)).1
chain_part a (b ∷ bs) h (suc i) = chain_part (a && b) bs h i

pub every_one : (n : ℕ) (p : ℕ → Bool) (i : ℕ) → every n p ≡ true → i < n → p i ≡ true
unfolding every
every_one zero p i h k = absurd (not-suc-le-zero k)
every_one (suc n) p i h k = go (eqb i n) refl (λ m. every_one n p i (and_parts (every n p) (p n) h).0 m)
  where
    go : (b : Bool) → eqb i n ≡ b → (i < n → p i ≡ true) → p i ≡ true
    go true e r = ap p (eqb-true i n e) ∙ (and_parts (every n p) (p n) h).1
    go false e r = let ne : i ≡ n → ⊥ = eqb-false i n e in r (omega arith)

-- one that fails fails them all
pub every_bad : (n : ℕ) (p : ℕ → Bool) (i : ℕ) → i < n → p i ≡ false → every n p ≡ false
every_bad n p i k e = both_ways (every n p) false (λ a. sym e ∙ every_one n p i a k) never

pub every_of : (n : ℕ) (p : ℕ → Bool) → ((i : ℕ) → i < n → p i ≡ true) → every n p ≡ true
unfolding every
every_of zero p f = refl
every_of (suc n) p f = every_of n p (λ i h. f i (omega arith)) also f n (omega arith)
