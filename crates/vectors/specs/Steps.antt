-- What the code computes step by step; nobody has to trust it: the laws of shading tie what is made of it to the law. Definitions only.
use Rattle.std.specs.Prelude.{List, [], ◌∷◌, Float}
use Rattle.vectors.specs.Vectors.{at, ◌⊖◌}

-- component by component
unfoldable pub minus_of : List Float → List Float → List Float
minus_of a b = at a 0 ⊖ at b 0 ∷ at a 1 ⊖ at b 1 ∷ at a 2 ⊖ at b 2 ∷ []
