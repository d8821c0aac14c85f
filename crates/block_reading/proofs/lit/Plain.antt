-- Where no word of a block is a NaN's pattern, each of its words can be taken as a float's: a number's pattern is not above the infinity's.
-- Assumes nothing.
use Prim.Native.Nat.{ℕ, ◌%◌, ◌<◌}
use mathlib.Core.Path.{◌≡◌, ap, ◌∙◌}
use mathlib.Core.Bool.{true, not}
use lib.Dec.{T}
use lib.Ieee.{binary32, nan_bits}
use borrow.Author.Tests.{leb-true}
use Rattle.block.specs.Block.{is_number}
use Rattle.block.specs.Steps.{nan_free}
use Rattle.block.specs.TestLaws.{every_one}
use Rattle.block.specs.WordLaws.{no_nan}

pub plain_word : (w : ℕ → ℕ) (i n : ℕ) → nan_free w ≡ true → i < 328 → n ≡ w i → T (not (nan_bits binary32 n))
unfolding nan_free is_number
plain_word w i n h k e =
    no_nan n (leb-true (n % 0x8000_0000) 0x7F80_0000 (ap is_number e ∙ every_one 328 (λ j. is_number (w j)) i h k))
