-- `rotation::rotate` meets its contract: the turn is the definition's, by what `cross`, `plus` and `times` ensure.
use lib.Ieee.{of_int, of_bits}
use Rattle.vectors.specs.Vectors.{axis_of, turn_of, plus_twice, rotate_of}
use Rattle.vectors.proofs.rotation.rotate.Goals as goal

pub returns : goal.returns
unfolding rotate_of plus_twice turn_of axis_of of_int of_bits
returns c =
    simp (c.cross-turn.ensures, c.plus.ensures, c.times.ensures, c.cross-inner.ensures)
