-- Max and min are NaN only of two, and clamp keeps NaN: by their cases. Assumes nothing.
use Rattle.std.specs.Prelude.{◌≡◌, refl, Bool, true, false, ◌&&◌, cond, Float}
use Rattle.std.proofs.Common.{ap}
use Rattle.std.specs.Float.{nan, inf, fin}
use Rattle.std.specs.Float.Ieee.{lt, is_nan}
use Rattle.binary32.specs.Binary32.{before, max_of, min_of, clamp_of}

-- ---- max and min
-- the number of the two, or either number
choice_nan : (x y : Float) (a b c : Bool) → is_nan x ≡ a → is_nan y ≡ b → is_nan (cond a y (cond b x (cond c y x))) ≡ (a && b)
choice_nan x y true b c p q = q
choice_nan x y false true c p q = p
choice_nan x y false false true p q = q
choice_nan x y false false false p q = p

-- NaN only where both are
pub max_nan : (x y : Float) → is_nan (max_of x y) ≡ (is_nan x && is_nan y)
unfolding max_of
max_nan x y = choice_nan x y (is_nan x) (is_nan y) (before x y) refl refl

pub min_nan : (x y : Float) → is_nan (min_of x y) ≡ (is_nan x && is_nan y)
unfolding min_of
min_nan x y = choice_nan x y (is_nan x) (is_nan y) (before y x) refl refl

-- ---- clamp
nothing_below_nan : (x : Float) → lt x nan ≡ false
unfolding lt
nothing_below_nan nan = refl
nothing_below_nan (inf s) = refl
nothing_below_nan (fin s m e) = refl

pub clamp_keeps_nan : (low high : Float) → clamp_of nan low high ≡ nan
unfolding clamp_of lt
clamp_keeps_nan low high = ap (λ (b : Bool). cond b high nan) (nothing_below_nan high)
