-- Shifts of a word: a power of two below 2 ^ 32 is shifted to without loss, and a word, being below 2 ^ 32, has no bits from the 32nd on. Assumes nothing.
use Prim.Native.Nat.{ℕ, ◌*◌, ◌/◌, ◌%◌, ◌^◌, ◌≤◌, ◌<◌}
use mathlib.Core.Path.{◌≡◌, ◌∙◌}
use lib.Pow.{shl_exact, shr_le, pow_mono}
use native.Mathlib.Nat.{one-mul, zero-mod, mod-eq_of_lt, div-eq_of_lt, lt_of_lt_of_le, lt_of_le_of_lt}
use native.Mathlib.Omega.{arith}

pub one_shifted : (k : ℕ) → k < 32 → (1 * 2 ^ k) % 2 ^ 32 ≡ 2 ^ k
one_shifted k h = shl_exact 1 k 32 (omega arith) (omega arith) ∙ one-mul (2 ^ k)

pub none_above : (w from width : ℕ) → w < 2 ^ 32 → 32 ≤ from → w / 2 ^ from % 2 ^ width ≡ 0
none_above w from width h l = rw (div-eq_of_lt (lt_of_lt_of_le h (pow_mono l))) (zero-mod (2 ^ width))

pub all_kept : (w from width : ℕ) → w < 2 ^ 32 → 32 ≤ width → w / 2 ^ from % 2 ^ width ≡ w / 2 ^ from
all_kept w from width h l = mod-eq_of_lt (lt_of_le_of_lt (shr_le w from) (lt_of_lt_of_le h (pow_mono l)))
