-- The parts of a short float's word: its exponent is at most 255, and its m mantissa bits, moved up by 23 − m, stay below 2 ^ 23. So it is a value of binary32. Assumes nothing.
use Rattle.std.specs.Prelude.{ℕ, suc, ◌+◌, ◌-◌, ◌*◌, ◌%◌, ◌^◌, ◌≤◌, ◌<◌, Bool, true, false, cond, ◌≡◌, T, eqb}
use Rattle.std.proofs.Common.{mod-lt, pow-suc, arith, ap, ◌∙◌, subst, pow_pos, pow_mono, shl_lt}
use Rattle.std.specs.Float.{binary32}
use Rattle.std.specs.Float.Ieee.{fits}
use Rattle.std.specs.Float.Ieee.Bits.{of_bits-fits}
use Rattle.fields.specs.Fields.{short_exponent, short_word, short_float}

-- ---- the widths, and powers at them

pub half_power : (e : ℕ) → 2 ≤ e → 2 ^ e ≡ 2 ^ (e - 1) * 2
half_power e low = let one : e ≡ suc (e - 1) = omega arith in ap (λ (k : ℕ). 2 ^ k) one ∙ pow-suc 2 (e - 1)

pub half_power_le : (e : ℕ) → e ≤ 7 → 2 ^ (e - 1) ≤ 64
half_power_le e high = pow_mono {i = e - 1} {j = 6} (omega arith)

-- ---- the parts of the word

pick_lt : (b : Bool) (x y z : ℕ) → x < z → y < z → cond b x y < z
pick_lt true x y z h k = h
pick_lt false x y z h k = k

pub exponent_lt : (e : ℕ) → 2 ≤ e → e ≤ 7 → (x : ℕ) → x < 2 ^ e → short_exponent e x < 256
unfolding short_exponent
exponent_lt e low high x h =
    pick_lt (eqb x (2 ^ e - 1)) 255 (x + 128 - 2 ^ (e - 1)) 256 (omega arith) (omega (arith, half_power e low, half_power_le e high))

pub mantissa_lt : (m n : ℕ) → m ≤ 12 → n % 2 ^ m * 2 ^ (23 - m) < 8388608
mantissa_lt m n high =
    let sum : m + (23 - m) ≡ 23 = omega arith in
    subst (λ (k : ℕ). n % 2 ^ m * 2 ^ (23 - m) < 2 ^ k) sum (shl_lt m (23 - m) (mod-lt n (pow_pos m)))

-- ---- the whole

pub float_fits : (m e n : ℕ) → T (fits binary32 (short_float m e n))
unfolding short_float
float_fits m e n = of_bits-fits binary32 (short_word m e n)
