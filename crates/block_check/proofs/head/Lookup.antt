-- A lookup that is there has the tests of its three words, and one that isn't is formed exactly if its four words are zero, since a presence below 2 that is not 1
-- is 0. Assumes nothing.
use Prim.Native.Nat.{ℕ, ◌<◌}
use native.Mathlib.Omega.{arith}
use mathlib.Core.Path.{◌≡◌, refl}
use mathlib.Core.Bool.{Bool, true, ◌&&◌, ◌||◌, and-true}
use mathlib.Core.List.{List, [], ◌∷◌}
use lib.Dec.{eqb, ltb, lit<}
use borrow.Author.Tests.{eq-eqb, ne_eqb, ltb-true}
use Rattle.std.specs.Cmp.{both_ways}
use Rattle.lighting.specs.Forms.{every}
use Rattle.block.specs.Block.{zeros, scale_formed}
use Rattle.block.specs.TestLaws.{chain_first, chain_part}
use Rattle.block.specs.WordLaws.{zero_at}
use Rattle.block_check.specs.Steps.{lookup_formed}

pub present : (v : ℕ → ℕ) → v 0 ≡ 1 → lookup_formed v ≡ (ltb (v 1) 8 && ltb (v 2) 2 && scale_formed (v 3))
unfolding lookup_formed
present v e = rw e (and-true (ltb (v 1) 8 && ltb (v 2) 2 && scale_formed (v 3)))

pub missing : (v : ℕ → ℕ) → (v 0 ≡ 1 → ⊥) → zeros v 0 4 ≡ lookup_formed v
unfolding lookup_formed zeros every scale_formed
missing v ne = both_ways (zeros v 0 4) (lookup_formed v) formed zero
  where
    formed : zeros v 0 4 ≡ true → lookup_formed v ≡ true
    formed h = rw (← zero_at v 0 4 0 h (lit< tt), ← zero_at v 0 4 1 h (lit< tt), ← zero_at v 0 4 2 h (lit< tt), ← zero_at v 0 4 3 h (lit< tt)) refl

    zero : lookup_formed v ≡ true → zeros v 0 4 ≡ true
    zero h =
        let cs : List Bool = ltb (v 1) 8 ∷ ltb (v 2) 2 ∷ scale_formed (v 3) ∷ (eqb (v 0) 1 || zeros v 1 3) ∷ [] in
        let few : v 0 < 2 = ltb-true (v 0) 2 (chain_first (ltb (v 0) 2) cs h) in
        let none : v 0 ≡ 0 = omega (arith, ne) in
        rw (eq-eqb (v 0) 0 none) (rw (ne_eqb (v 0) 1 ne) at (chain_part (ltb (v 0) 2) cs h 3))
