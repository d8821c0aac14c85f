-- Three values of binary32 make a vector; so a vector over a number is one, since a quotient is rounded to such a value, and so is a vector made a
-- unit vector. Assumes nothing.
use Rattle.std.specs.Prelude.{ℕ, zero, suc, List, [], ◌∷◌, refl, T, Float}
use Rattle.std.specs.Float.{binary32}
use Rattle.std.specs.Float.Ieee.{fits}
use Rattle.std.specs.Float.Ieee.Fits.{nan-fits, div-fits}
use Rattle.vectors.specs.Vectors.{at, over_of, normalized_of}
use Rattle.vectors.specs.Claims.{Vector}

pub three : (x y z : Float) → T (fits binary32 x) → T (fits binary32 y) → T (fits binary32 z) → Vector (x ∷ y ∷ z ∷ [])
three x y z hx hy hz = record { long = refl; fit = each }
  where
    each : (i : ℕ) → T (fits binary32 (at (x ∷ y ∷ z ∷ []) i))
    each zero = hx
    each (suc zero) = hy
    each (suc (suc zero)) = hz
    each (suc (suc (suc i))) = nan-fits binary32

pub over_vector : (v : List Float) (k : Float) → Vector (over_of v k)
unfolding over_of
over_vector v k = three _ _ _ (div-fits binary32 _ _) (div-fits binary32 _ _) (div-fits binary32 _ _)

pub normalized_vector : (v : List Float) → Vector (normalized_of v)
unfolding normalized_of
normalized_vector v = over_vector v _
