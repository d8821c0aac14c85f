-- What the functions below `root` ensure, on whole numbers; nobody has to trust it: the contract of `root` cites the law, `root_of` of Root. Definitions only.
use Rattle.std.specs.Prelude.{◌≡◌, ℕ, ◌+◌, ◌-◌, ◌*◌, ◌/◌, ◌%◌, ◌^◌, ◌≤◌, ◌<◌}
use Rattle.std.specs.Float.{binary32}
use Rattle.std.specs.Float.Ieee.{of_bits}
use Rattle.root.specs.Root.{root_units, in_units}

-- r is the whole number nearest to the root of w: the root lies above r - 1/2 and below r + 1/2, whose squares are r * r - r + 1/4 and r * r + r + 1/4.
-- A tie is not possible, since those are no whole numbers.
pub record Near (w r : ℕ) : Type 0 where
  pub above : r * r < w + r
  pub below : w ≤ r * r + r

-- A value above zero is m * 2 ^ (y - 126) of binary32's smallest values, for an m of 24 binary digits. It is carried as n: y, then the 23 digits of m below the leading one.
-- Its root, in the same unit, is the root of this whole number.
abbrev pub square_at : ℕ → ℕ
square_at n = (2 ^ 23 + n % 2 ^ 23) * 2 ^ (n / 2 ^ 23 + 23)

-- n carries the value of the pattern b
pub record Placed (b n : ℕ) : Type 0 where
  pub small : n < 380 * 2 ^ 23
  pub is : in_units (of_bits binary32 b) * 2 ^ 149 ≡ square_at n

-- w, of 47 or 48 digits, is that whole number but for a power of 4: w is made of the last 24 digits of n, and the power of the others
pub record Wide (z w : ℕ) : Type 0 where
  pub lo : 2 ^ 46 ≤ w
  pub hi : w ≤ 2 ^ 48 - 2 ^ 24
  pub is : (n : ℕ) → n % 2 ^ 24 ≡ z → square_at n ≡ w * (2 ^ (n / 2 ^ 24) * 2 ^ (n / 2 ^ 24))

-- r is the pattern, no NaN's, of the root of what n carries
pub record Rooted (n r : ℕ) : Type 0 where
  pub small : r < 0x7f80_0000
  pub is : (N : ℕ) → N * 2 ^ 149 ≡ square_at n → root_units binary32 N ≡ of_bits binary32 r
