-- NaN in code: 0 / 0 makes one, a float is one exactly if it differs from itself, and a pattern is one's exactly if it lies above the infinity's.
-- Assumes nothing.
use Rattle.std.specs.Prelude.{◌≡◌, refl, true, false, not, ℕ, ◌%◌, ◌≤◌, ◌<◌, T, Float}
use Rattle.std.proofs.Common.{sym, subst, ◌∙◌, true≢false, lt-ltb, le-ltb}
use Rattle.std.specs.Float.{nan, inf, fin, binary32}
use Rattle.std.specs.Float.Ieee.{of_bits, is_nan, nan_bits, div, ne}
use Rattle.std.specs.Float.Ieee.Bits.{nan_bits_above}
use Rattle.std.specs.Float.Ieee.Compare.{differs_from_itself}

pub none : div binary32 (of_bits binary32 0) (of_bits binary32 0) ≡ nan
unfolding div of_bits
none = refl

pub itself : (x : Float) → ne x x ≡ false → T (not (is_nan x))
unfolding ne is_nan
itself nan h = absurd (true≢false h)
itself (inf s) h = tt
itself (fin s m e) h = tt

pub differs : (x : Float) → ne x x ≡ true → x ≡ nan
differs x h = differs_from_itself x (subst T (sym h) tt)

pub at_most_infinity : (n : ℕ) → n % 2147483648 ≤ 2139095040 → nan_bits binary32 n ≡ false
at_most_infinity n h = nan_bits_above binary32 n ∙ le-ltb 2139095040 (n % 2147483648) h

pub above_infinity : (n : ℕ) → 2139095040 < n % 2147483648 → nan_bits binary32 n ≡ true
above_infinity n h = nan_bits_above binary32 n ∙ lt-ltb 2139095040 (n % 2147483648) h
