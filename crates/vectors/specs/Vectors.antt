-- Vectors of three floats, each the list of its components, and a quaternion's turn of one: `dot`, `cross`, `normalized` and `rotate` of the Rust, and what
-- its bodies do component by component. "each operation rounded once, sums from the left". Definitions only.
use Rattle.std.specs.Prelude.{ℕ, List, [], ◌∷◌, pos, get_or, Float}
use Rattle.std.specs.Float.{nan, binary32}
use Rattle.std.specs.Float.Ieee.{add, sub, mul, div, of_int}
use Rattle.root.specs.Root.{root_of}

-- v[i]
abbrev pub at : List Float → ℕ → Float
at v i = get_or v i nan

-- ---- The operations of binary32, products binding closer than sums

infixl 68 ◌⊕◌
abbrev pub ◌⊕◌ : Float → Float → Float
x ⊕ y = add binary32 x y

infixl 68 ◌⊖◌
abbrev pub ◌⊖◌ : Float → Float → Float
x ⊖ y = sub binary32 x y

infixl 70 ◌⊗◌
abbrev pub ◌⊗◌ : Float → Float → Float
x ⊗ y = mul binary32 x y

infixl 70 ◌⊘◌
abbrev pub ◌⊘◌ : Float → Float → Float
x ⊘ y = div binary32 x y

-- ---- Component by component

unfoldable pub plus_of : List Float → List Float → List Float
plus_of a b = at a 0 ⊕ at b 0 ∷ at a 1 ⊕ at b 1 ∷ at a 2 ⊕ at b 2 ∷ []

unfoldable pub times_of : List Float → Float → List Float
times_of v k = at v 0 ⊗ k ∷ at v 1 ⊗ k ∷ at v 2 ⊗ k ∷ []

unfoldable pub over_of : List Float → Float → List Float
over_of v k = at v 0 ⊘ k ∷ at v 1 ⊘ k ∷ at v 2 ⊘ k ∷ []

-- ---- dot, cross and normalized

unfoldable pub dot_of : List Float → List Float → Float
dot_of a b = at a 0 ⊗ at b 0 ⊕ at a 1 ⊗ at b 1 ⊕ at a 2 ⊗ at b 2

unfoldable pub cross_of : List Float → List Float → List Float
cross_of a b =
    at a 1 ⊗ at b 2 ⊖ at a 2 ⊗ at b 1 ∷
    at a 2 ⊗ at b 0 ⊖ at a 0 ⊗ at b 2 ∷
    at a 0 ⊗ at b 1 ⊖ at a 1 ⊗ at b 0 ∷ []

-- "Normalising divides each component by the root of the vector's dot with itself."
unfoldable pub normalized_of : List Float → List Float
normalized_of v = over_of v (root_of (dot_of v v))

-- ---- rotate: the vector v turned by the unit quaternion q, whose fourth component is the real one

unfoldable pub axis_of : List Float → List Float
axis_of q = at q 0 ∷ at q 1 ∷ at q 2 ∷ []

unfoldable pub turn_of : List Float → List Float → List Float
turn_of q v = cross_of (axis_of q) (plus_of (cross_of (axis_of q) v) (times_of v (at q 3)))

abbrev pub two : Float
two = of_int binary32 (pos 2)

-- v and twice the turn t
unfoldable pub plus_twice : List Float → List Float → List Float
plus_twice v t = at v 0 ⊕ two ⊗ at t 0 ∷ at v 1 ⊕ two ⊗ at t 1 ∷ at v 2 ⊕ two ⊗ at t 2 ∷ []

unfoldable pub rotate_of : List Float → List Float → List Float
rotate_of q v = plus_twice v (turn_of q v)
