-- What it means that r is the value of binary32 that is nearest to the root of x, for an x above zero: said with whole numbers, and of every other finite value. Statements only:
-- it is proved of `root_of` (proofs/Closest).
-- In units of the smallest value, 2 ^ -149, let x be N, r be R and another value y be Y or -Y. The root of x is then the root of the whole number n = N * 2 ^ 149.
use Rattle.std.specs.Prelude.{◌≡◌, ℕ, ◌+◌, ◌-◌, ◌*◌, ◌^◌, ◌<◌, true, false, T, ℤ, Float}
use Rattle.std.specs.Float.{fin, binary32}
use Rattle.std.specs.Float.Ieee.{fits}
use Rattle.std.specs.Float.Ieee.Scale.{finite}
use Rattle.std.specs.Float.Ieee.Positive.{positive}
use Rattle.root.specs.Root.{in_units}

-- y is farther from the root of n than R is: the root and R lie on one side of the middle of R and y. This is asked of the squares, times 4, of the middle, (R + Y) / 2 or (R - Y) / 2, and of the root.
-- Where R - Y would be below zero it counts as 0, which is below the root too. A zero has Y = 0, with either sign.
pub data Farther (n R : ℕ) : Float → Type 0 where
  above : (m : ℕ) (e : ℤ) → R < in_units (fin false m e) → 4 * n < (R + in_units (fin false m e)) * (R + in_units (fin false m e)) → Farther n R (fin false m e)
  below : (m : ℕ) (e : ℤ) → in_units (fin false m e) < R → (R + in_units (fin false m e)) * (R + in_units (fin false m e)) < 4 * n → Farther n R (fin false m e)
  negative : (m : ℕ) (e : ℤ) → (R - in_units (fin true m e)) * (R - in_units (fin true m e)) < 4 * n → Farther n R (fin true m e)

-- r is a value of binary32, finite and above zero, and every other finite value, the zeros and those below zero among them, is farther from the root. So no tie is possible.
-- An infinity is the nearest from 2 ^ 128 - 2 ^ 103 on, by IEEE 754's rule: in units from 2 ^ 277 - 2 ^ 252 on. The root lies below that.
pub record Closest (x r : Float) : Type 0 where
  pub held : T (fits binary32 r)
  pub above_zero : T (positive r)
  pub no_infinity : in_units x * 2 ^ 149 < (2 ^ 277 - 2 ^ 252) * (2 ^ 277 - 2 ^ 252)
  pub nearer : (y : Float) → T (fits binary32 y) → T (finite y) → (y ≡ r → ⊥) → Farther (in_units x * 2 ^ 149) (in_units r) y
