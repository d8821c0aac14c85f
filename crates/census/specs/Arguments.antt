-- How the program reads an argument: a width in decimal digits. Definitions only.
use Rattle.std.specs.Char.{is_ascii_digit}
use Rattle.std.specs.Prelude.{ℕ, ◌+◌, ◌-◌, ◌*◌, min, List, [], ◌∷◌, cond, Option, Some, None}

-- the digits before have written n; `0` is 48. Above 1000 it stays 1000, for no width is so large
unfoldable pub digits_from : ℕ → List ℕ → Option ℕ
digits_from n [] = Some n
digits_from n (b ∷ bs) = cond (is_ascii_digit b) (digits_from (min (n * 10 + (b - 48)) 1000) bs) None

-- no digit at all writes nothing
unfoldable pub width_of : List ℕ → Option ℕ
width_of [] = None
width_of (b ∷ bs) = digits_from 0 (b ∷ bs)
