-- The text of some lines, by computing.
use mathlib.Core.Path.{◌≡◌, refl}
use mathlib.Core.List.{[], ◌∷◌}
use Rattle.printing.specs.Printing.{decimal, gap, line, refused_line}

-- `0 9 10 99 100 255 1 0`
pub eight_numbers : line (0 ∷ 9 ∷ 10 ∷ 99 ∷ 100 ∷ 255 ∷ 1 ∷ 0 ∷ []) ≡ 48 ∷ 32 ∷ 57 ∷ 32 ∷ 49 ∷ 48 ∷ 32 ∷ 57 ∷ 57 ∷ 32 ∷ 49 ∷ 48 ∷ 48 ∷ 32 ∷ 50 ∷ 53 ∷ 53 ∷ 32 ∷ 49 ∷ 32 ∷ 48 ∷ 10 ∷ []
unfolding decimal gap line
eight_numbers = refl

-- `refused 8`
pub eight_refused : refused_line 8 ≡ 114 ∷ 101 ∷ 102 ∷ 117 ∷ 115 ∷ 101 ∷ 100 ∷ 32 ∷ 56 ∷ 10 ∷ []
unfolding decimal
eight_refused = refl
