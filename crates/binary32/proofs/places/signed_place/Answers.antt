-- `places::signed_place` meets its contract: entry and delta are those of the definition, case by case (`SignedPlaces`), since the pattern of the raised floor ends in the wrapped entry (`RaisedLaws`).
--
use mathlib.Core.Path.{◌≡◌, sym, ap, subst, ◌∙◌}
use mathlib.Core.Bool.{not}
use Prim.Native.Nat.{ℕ, ◌%◌}
use lib.IntN.{pos}
use lib.Dec.{T}
use lib.Ieee.{Float, binary32, add, sub, mul, neg, of_int, to_signed, is_nan, of_bits, to_bits}
use lib.Ieee.Fits.{mul-fits}
use Rattle.binary32.specs.Binary32.{float127, float128, minus128, clamp_of, floor_of, wrapped, signed_place_of}
use Rattle.binary32.specs.Steps.{held_of, raisable, raised_floor}
use Rattle.binary32.specs.declared.Place.{Place}
use Rattle.binary32.specs.NanLaws.{itself, differs}
use Rattle.binary32.specs.RaisedLaws.{big, raised_number, raised_bits, raised_off, raised_bounds}
use Rattle.binary32.proofs.places.SignedPlaces.{held_in, placed, nan_place}
use Rattle.binary32.proofs.places.signed_place.Goals as goal

-- what is held, and its raised floor
held-is : (c : goal.After-held) → c.held.result ≡ held_of (mul binary32 c.args.x float128) minus128 float127
unfolding neg of_bits
held-is c = c.held.ensures

raised_is : (c : goal.After-raised_floor-w) → c.raised_floor-w.result ≡ of_int binary32 (pos (raised_floor (held_of (mul binary32 c.args.x float128) minus128 float127)))
raised_is c = c.raised_floor-w.ensures ∙ ap (λ (z : Float). of_int binary32 (pos (raised_floor z))) (held-is c.before)

same_place : (d f : Float) (n k : ℕ) → n ≡ k → d ≡ f → ◌≡◌ {A = Place} (record { entry = n; delta = d }) (record { entry = k; delta = f })
same_place d f n k p q = λ i. record { entry = p i; delta = q i }

pub returns-then-y : goal.returns-then-y
unfolding signed_place_of
returns-then-y c =
    let e = differs (mul binary32 c.args.x float128) c.if-y.true in
    same_place (mul binary32 c.args.x float128) _ 0 _
    (sym nan_place.0 ∙ ap (λ (y : Float). wrapped (to_signed 7 (clamp_of (floor_of y) minus128 float127))) (sym e))
    (e ∙ sym nan_place.1 ∙ ap (λ (y : Float). sub binary32 y (clamp_of (floor_of y) minus128 float127)) (sym e))

pub raised_floor-w-requires : goal.raised_floor-w-requires
raised_floor-w-requires c = subst (λ (z : Float). T (raisable z)) (sym (held-is c)) (held_in (mul binary32 c.args.x float128))

pub float_to_bits-result : goal.float_to_bits-result
float_to_bits-result c = let s = c.before.before.before in subst (λ (w : Float). T (not (is_nan w))) (sym (raised_is c)) (raised_number (raised_floor (held_of (mul binary32 s.args.x float128) minus128 float127)) (raised_bounds (held_of (mul binary32 s.args.x float128) minus128 float127) (held_in (mul binary32 s.args.x float128))).1)

pub returns : goal.returns
unfolding signed_place_of
returns c =
    let s = c.before.before.before in
    let y = (mul binary32 s.args.x float128) in
    let p = placed y (mul-fits binary32 s.args.x float128) (itself y c.if-y.false) in
    same_place _ _ _ _
    (ap (λ (w : Float). to_bits binary32 w % 256) (raised_is c) ∙ ap (λ (n : ℕ). n % 256) (raised_bits (raised_floor (held_of (mul binary32 s.args.x float128) minus128 float127)) (raised_bounds (held_of (mul binary32 s.args.x float128) minus128 float127) (held_in (mul binary32 s.args.x float128))).0 (raised_bounds (held_of (mul binary32 s.args.x float128) minus128 float127) (held_in (mul binary32 s.args.x float128))).1) ∙ p.0)
    (ap (λ (w : Float). add binary32 y (sub binary32 big w)) (raised_is c) ∙ ap (add binary32 y) (raised_off (raised_floor (held_of (mul binary32 s.args.x float128) minus128 float127)) (raised_bounds (held_of (mul binary32 s.args.x float128) minus128 float127) (held_in (mul binary32 s.args.x float128))).1) ∙ p.1)
