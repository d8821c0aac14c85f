-- `places::unsigned_place` meets its contract: entry and delta are those of the definition, case by case (`UnsignedPlaces`).
--
use mathlib.Core.Path.{◌≡◌, sym, ap, subst, ◌∙◌}
use Prim.Native.Nat.{ℕ, ◌<◌}
use native.Mathlib.Omega.{arith}
use lib.Dec.{T}
use lib.Ieee.{Float, binary32, minus, add, mul, of_int, to_unsigned}
use lib.Ieee.Casts.{to_unsigned-lt}
use lib.Ieee.Fits.{mul-fits}
use Rattle.binary32.specs.Binary32.{float0, float255, float256, unsigned_place_of}
use Rattle.binary32.specs.Steps.{held_of, under_byte}
use Rattle.binary32.specs.declared.Place.{Place}
use Rattle.binary32.proofs.places.UnsignedPlaces.{held_under, placed}
use Rattle.binary32.proofs.places.unsigned_place.Goals as goal

-- `whole`'s result, by the scaled input
entry : (c : goal.After-whole-n) → c.whole-n.result ≡ to_unsigned 8 (held_of (mul binary32 c.args.x float256) float0 float255)
entry c = c.whole-n.ensures ∙ ap (to_unsigned 8) c.held.ensures

small : (c : goal.After-whole-n) → c.whole-n.result < 256
small c = subst (λ (n : ℕ). n < 256) (sym (entry c)) (to_unsigned-lt 8 (held_of (mul binary32 c.args.x float256) float0 float255))

pub whole-n-requires : goal.whole-n-requires
whole-n-requires c = subst (λ (z : Float). T (under_byte z)) (sym c.held.ensures) (held_under (mul binary32 c.args.x float256))

pub overflow_cast-result : goal.overflow_cast-result
overflow_cast-result c = record { fits = small c }

pub difference-requires : goal.difference-requires
difference-requires c = (omega (arith, small c), omega (arith, small c))

same_place : (y d : Float) (n k : ℕ) (f : Float) → n ≡ k → add binary32 y d ≡ f → ◌≡◌ {A = Place} (record { entry = n; delta = add binary32 y d }) (record { entry = k; delta = f })
same_place y d n k f p q = λ i. record { entry = p i; delta = q i }

pub returns : goal.returns
unfolding unsigned_place_of
returns c =
    let d = c.before in
    let y = mul binary32 d.args.x float256 in
    let s = placed y (mul-fits binary32 d.args.x float256) in
    same_place y c.difference.result d.whole-n.result _ _ (entry d ∙ s.0)
    (ap (add binary32 y) (c.difference.ensures ∙ ap (λ (n : ℕ). of_int binary32 (minus 0 n)) (entry d)) ∙ s.1)
