-- Worked cases of the definitions. Each is closed, so both sides compute to the same value. Assumes nothing.
use mathlib.Core.List.{List, [], ◌∷◌}
use mathlib.Core.Path.{◌≡◌, refl}
use lib.IntN.{ℤ, pos, negsuc}
use lib.Ieee.{Float, binary32, add, sub, mul, div, of_int, to_bits}
use Rattle.root.specs.Root.{root_of}
use Rattle.vectors.specs.Vectors.{at, plus_of, times_of, over_of, dot_of, cross_of, normalized_of, axis_of, turn_of, plus_twice, rotate_of}

-- a whole number, and a vector of three
abbrev whole : ℤ → Float
whole z = of_int binary32 z

abbrev vector : ℤ → ℤ → ℤ → List Float
vector x y z = whole x ∷ whole y ∷ whole z ∷ []

dot_case : dot_of (vector (pos 1) (pos 2) (pos 3)) (vector (pos 4) (pos 5) (pos 6)) ≡ whole (pos 32)
unfolding dot_of of_int add mul
dot_case = refl

-- x cross y is z
cross_case : cross_of (vector (pos 1) (pos 0) (pos 0)) (vector (pos 0) (pos 1) (pos 0)) ≡ vector (pos 0) (pos 0) (pos 1)
unfolding cross_of of_int sub mul
cross_case = refl

-- 3, 0, 4 has the length 5: its last component, 4 over 5, is 3F4CCCCD
normalized_case : to_bits binary32 (at (normalized_of (vector (pos 3) (pos 0) (pos 4))) 2) ≡ 0x3F4C_CCCD
unfolding normalized_of over_of dot_of root_of of_int add mul div to_bits
normalized_case = refl

-- the quaternion 0, 0, 1, 0 is half a turn about z
rotate_case : rotate_of (whole (pos 0) ∷ whole (pos 0) ∷ whole (pos 1) ∷ whole (pos 0) ∷ []) (vector (pos 1) (pos 2) (pos 3)) ≡ vector (negsuc 0) (negsuc 1) (pos 3)
unfolding rotate_of plus_twice turn_of cross_of plus_of times_of axis_of of_int add sub mul
rotate_case = refl

-- the quaternion 0, 0, 0, 1 leaves a vector as it is
stay_case : rotate_of (whole (pos 0) ∷ whole (pos 0) ∷ whole (pos 0) ∷ whole (pos 1) ∷ []) (vector (pos 1) (pos 2) (pos 3)) ≡ vector (pos 1) (pos 2) (pos 3)
unfolding rotate_of plus_twice turn_of cross_of plus_of times_of axis_of of_int add sub mul
stay_case = refl
