-- What `float_of` and `word_of` are to each other: a word comes back from its float, but for a NaN pattern, which comes back as 7FC00000. Assumes nothing.
use Rattle.std.specs.Prelude.{◌≡◌, refl, Bool, true, false, not, ℕ, ◌<◌, T, Float}
use Rattle.std.proofs.Common.{sym, ◌∙◌, subst}
use Rattle.std.specs.Float.{nan, inf, fin, binary32}
use Rattle.std.specs.Float.Ieee.{fits, is_nan, nan_bits, to_bits}
use Rattle.std.specs.Float.Ieee.Bits.{to_bits-of_bits, of_bits-fits, nan_bits_is}
use Rattle.binary32.specs.Binary32.{float_of, word_of}

pub word_of_float_of : (n : ℕ) → n < 4294967296 → nan_bits binary32 n ≡ false → word_of (float_of n) ≡ n
word_of_float_of n h e = to_bits-of_bits binary32 n h (subst (λ (b : Bool). T (not b)) (sym e ∙ nan_bits_is binary32 n) tt)

only_nan : (x : Float) → is_nan x ≡ true → x ≡ nan
unfolding is_nan
only_nan nan e = refl
only_nan (inf s) e = absurd (subst (λ (b : Bool). T (not b)) e tt)
only_nan (fin s m x) e = absurd (subst (λ (b : Bool). T (not b)) e tt)

pub nan_pattern_is_nan : (n : ℕ) → nan_bits binary32 n ≡ true → float_of n ≡ nan
nan_pattern_is_nan n e = only_nan (float_of n) (sym (nan_bits_is binary32 n) ∙ e)

pub word_of_nan : word_of nan ≡ 0x7fc0_0000
unfolding to_bits
word_of_nan = refl

pub float_fits : (n : ℕ) → T (fits binary32 (float_of n))
float_fits n = of_bits-fits binary32 n
