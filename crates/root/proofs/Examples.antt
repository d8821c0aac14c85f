-- `root_of` at single patterns, where antt computes both sides. Among them are document 01's case, the root of 2, the ends of the range, and each value that is no number above zero.
-- Assumes nothing.
use mathlib.Core.Path.{◌≡◌, refl}
use lib.Ieee.{nan, binary32, of_bits}
use Rattle.root.specs.Root.{root_of}

two : root_of (of_bits binary32 0x4000_0000) ≡ of_bits binary32 0x3fb5_04f3
unfolding root_of of_bits
two = refl

four : root_of (of_bits binary32 0x4080_0000) ≡ of_bits binary32 0x4000_0000
unfolding root_of of_bits
four = refl

smallest : root_of (of_bits binary32 0x0000_0001) ≡ of_bits binary32 0x1a35_04f3
unfolding root_of of_bits
smallest = refl

largest_subnormal : root_of (of_bits binary32 0x007f_ffff) ≡ of_bits binary32 0x1fff_ffff
unfolding root_of of_bits
largest_subnormal = refl

smallest_normal : root_of (of_bits binary32 0x0080_0000) ≡ of_bits binary32 0x2000_0000
unfolding root_of of_bits
smallest_normal = refl

largest : root_of (of_bits binary32 0x7f7f_ffff) ≡ of_bits binary32 0x5f7f_ffff
unfolding root_of of_bits
largest = refl

just_under_one : root_of (of_bits binary32 0x3f7f_ffff) ≡ of_bits binary32 0x3f7f_ffff
unfolding root_of of_bits
just_under_one = refl

plus_zero : root_of (of_bits binary32 0x0000_0000) ≡ of_bits binary32 0x0000_0000
unfolding root_of of_bits
plus_zero = refl

minus_zero : root_of (of_bits binary32 0x8000_0000) ≡ of_bits binary32 0x8000_0000
unfolding root_of of_bits
minus_zero = refl

minus_one : root_of (of_bits binary32 0xbf80_0000) ≡ nan
unfolding root_of of_bits
minus_one = refl

smallest_below_zero : root_of (of_bits binary32 0x8000_0001) ≡ nan
unfolding root_of of_bits
smallest_below_zero = refl

infinity : root_of (of_bits binary32 0x7f80_0000) ≡ of_bits binary32 0x7f80_0000
unfolding root_of of_bits
infinity = refl

minus_infinity : root_of (of_bits binary32 0xff80_0000) ≡ nan
unfolding root_of of_bits
minus_infinity = refl

no_number : root_of (of_bits binary32 0x7fc0_0000) ≡ nan
unfolding root_of of_bits
no_number = refl
