-- What three floats say of a vector, and what `all` tells of the lit lights.
-- Assumes nothing.
use Prim.Native.Nat.{ℕ, zero, suc, ◌<◌, ◌≤◌}
use native.Mathlib.Omega.{arith}
use mathlib.Core.Path.{◌≡◌, sym, subst}
use mathlib.Core.List.{List}
use mathlib.Core.Bool.{Bool, true, false}
use lib.Dec.{leb, T}
use lib.ListN.{length, get_or, take, get_or-eq_default}
use lib.Ieee.{Float, nan, binary32, fits}
use lib.Ieee.Fits.{nan-fits}
use borrow.Author.Tests.{lt-leb, le-leb}
use Rattle.std.specs.Bool.{MatchBool}
use Rattle.std.specs.List.{AllWithin, HoldsAt}
use Rattle.std.proofs.Common.{length-take-le}
use Rattle.std.proofs.lemmas.List.{get_or-take}
use Rattle.vectors.specs.Vectors.{at}
use Rattle.vectors.specs.Claims.{Vector}
use Rattle.lighting.specs.declared.Light.{Light}
use Rattle.lighting.specs.declared.Lighting.{Lighting}
use Rattle.lighting.specs.Lighting.{no_light, light_at, numbers_fit}
use Rattle.block.specs.TestLaws.{every_of, every_bad}

pub vector_made : (v : List Float) → length v ≡ 3 → T (fits binary32 (at v 0)) → T (fits binary32 (at v 1)) → T (fits binary32 (at v 2)) → Vector v
vector_made v n h0 h1 h2 = record { long = n; fit = each }
  where
    each : (i : ℕ) → T (fits binary32 (at v i))
    each zero = h0
    each (suc zero) = h1
    each (suc (suc zero)) = h2
    each (suc (suc (suc i))) = subst (λ (x : Float). T (fits binary32 x)) (sym (get_or-eq_default v nan {n = suc (suc (suc i))} (omega arith))) (nan-fits binary32)

-- the test of the lit lights by what `all` tells of them
pub numbers_told : (l : Lighting) (r : Bool) → length l.lights ≡ 8 → l.light_count ≤ 8
    → MatchBool r (AllWithin (λ (x : Light). x.number.0 ≤ 7) (take l.light_count l.lights) 0 (length (take l.light_count l.lights)))
    ((k : ℕ) × (k < length (take l.light_count l.lights)) × HoldsAt (λ (x : Light). 7 < x.number.0) (take l.light_count l.lights) k)
    → r ≡ numbers_fit l
unfolding numbers_fit light_at
numbers_told l true n few m =
    let long : length (take l.light_count l.lights) ≡ l.light_count = length-take-le l.light_count l.lights (omega arith) in
    sym (every_of l.light_count (λ s. leb (get_or l.lights s no_light).number.0 7)
    (λ i h. le-leb _ 7 (subst (λ (x : Light). x.number.0 ≤ 7) (get_or-take l.light_count l.lights i no_light h) (m i no_light (omega arith) (omega arith)))))
numbers_told l false n few m =
    let long : length (take l.light_count l.lights) ≡ l.light_count = length-take-le l.light_count l.lights (omega arith) in
    let k = m.0 in
    let h : k < l.light_count = omega (arith, m.1) in
    sym (every_bad l.light_count (λ s. leb (get_or l.lights s no_light).number.0 7) k h
    (lt-leb _ _ (subst (λ (x : Light). 7 < x.number.0) (get_or-take l.light_count l.lights k no_light h) (m.2 no_light))))
