-- Where the number stands whose root is taken: `placed` gives every value above zero 24 digits, and `wide` moves them up by 23 or 24 places, so that what is left of the exponent is even.
-- Each equation is a sum of exponents. Assumes nothing.
use mathlib.Core.Path.{◌≡◌, sym, ap, ◌∙◌, subst}
use Prim.Native.Nat.{ℕ, suc, ◌+◌, ◌-◌, ◌*◌, ◌/◌, ◌%◌, ◌^◌, ◌≤◌, ◌<◌}
use native.Mathlib.Nat.{le_trans, le_of_eq, lt_of_lt_of_le, lt_of_not-le, not-le_of_lt, mul_assoc, mul-le-mul_right, mod-eq_of_lt}
use native.Mathlib.Omega.{arith}
use lib.Dec.{leb→le}
use lib.Pow.{pow-add, pow_mono, shl_lt}
use lib.Count.{count_leading_zeros, leading_top}
use Rattle.root.specs.Steps.{Wide, Placed}
use Rattle.root.proofs.Patterns.{normal_units, subnormal_units}

-- ---- `wide`
powers : (m a k b : ℕ) → a + (k + k) ≡ b → m * 2 ^ a * (2 ^ k * 2 ^ k) ≡ m * 2 ^ b
powers m a k b e = mul_assoc m (2 ^ a) (2 ^ k * 2 ^ k) ∙ ap (λ (z : ℕ). m * z) (ap (λ (z : ℕ). 2 ^ a * z) (sym (pow-add 2 k k)) ∙ sym (pow-add 2 a (k + k)) ∙ ap (λ (z : ℕ). 2 ^ z) e)

pub wide_even : (z : ℕ) → z < 8388608 → Wide z ((z + 8388608) * 8388608)
wide_even z h = record {
  lo = omega arith;
  hi = omega arith;
  is = λ n e.
      let y = n / 8388608 in
      let k = n / 16777216 in
      let m : 8388608 + n % 8388608 ≡ z + 8388608 = omega arith in
      let s : 23 + (k + k) ≡ y + 23 = omega arith in
      ap (λ (x : ℕ). x * 2 ^ (y + 23)) m ∙ sym (powers (z + 8388608) 23 k (y + 23) s);
}

pub wide_odd : (z : ℕ) → 8388608 ≤ z → z < 16777216 → Wide z (z * 2 * 8388608)
wide_odd z l h = record {
  lo = omega arith;
  hi = omega arith;
  is = λ n e.
      let y = n / 8388608 in
      let k = n / 16777216 in
      let m : 8388608 + n % 8388608 ≡ z = omega arith in
      let s : 24 + (k + k) ≡ y + 23 = omega arith in
      let t : z * 16777216 ≡ z * 2 * 8388608 = omega arith in
      ap (λ (x : ℕ). x * 2 ^ (y + 23)) m ∙ sym (powers z 24 k (y + 23) s) ∙ ap (λ (x : ℕ). x * (2 ^ k * 2 ^ k)) t;
}

-- ---- `placed`, of a normal pattern
pub normal_placed : (b : ℕ) → 8388608 ≤ b → b < 2139095040 → Placed b (b + 1048576000)
normal_placed b lo hi = record {
  small = omega arith;
  is =
      let n = b + 1048576000 in
      let m = 8388608 + b % 8388608 in
      let k = b / 8388608 - 1 in
      let sum : k + 149 ≡ n / 8388608 + 23 = omega arith in
      let same : m ≡ 8388608 + n % 8388608 = omega arith in
      ap (λ (z : ℕ). z * 2 ^ 149) (normal_units b lo hi)
      ∙ mul_assoc m (2 ^ k) (2 ^ 149)
      ∙ ap (λ (z : ℕ). m * z) (sym (pow-add 2 k 149))
      ∙ ap (λ (z : ℕ). m * 2 ^ z) sum
      ∙ ap (λ (z : ℕ). z * 2 ^ (n / 8388608 + 23)) same;
}

-- ---- and of a subnormal one, moved up until it has 24 digits
abbrev pub moved : ℕ → ℕ
moved b = count_leading_zeros 32 b - 8

pub record Moved (b : ℕ) : Type 0 where
  pub some : 8 ≤ count_leading_zeros 32 b
  pub few : moved b ≤ 23
  pub is : b * 2 ^ moved b % 2 ^ 32 ≡ b * 2 ^ moved b
  pub lo : 8388608 ≤ b * 2 ^ moved b
  pub hi : b * 2 ^ moved b < 16777216

pub subnormal_moved : (b : ℕ) → 0 < b → b < 8388608 → Moved b
subnormal_moved b p h =
    let t = leading_top 32 b p (lt_of_lt_of_le {n = b} {m = 8388608} {k = 4294967296} h (leb→le 8388608 4294967296 tt)) in
    let j = t.0 in
    let s = moved b in
    let J : j < 23 = below j t.2 in
    let e : j + s ≡ 23 = omega (arith, t.1) in
    let lo : 8388608 ≤ b * 2 ^ s = le_trans (le_of_eq (sym (ap (λ (z : ℕ). 2 ^ z) e) ∙ pow-add 2 j s)) (mul-le-mul_right (2 ^ s) t.2) in
    let hi : b * 2 ^ s < 16777216 = lt_of_lt_of_le (shl_lt (suc j) s t.3) (le_of_eq (ap (λ (z : ℕ). 2 ^ z) (more j s e))) in
    record { some = omega (arith, t.1); few = omega arith; is = mod-eq_of_lt (lt_of_lt_of_le hi (leb→le 16777216 4294967296 tt)); lo = lo; hi = hi }
  where
    below : (j : ℕ) → 2 ^ j ≤ b → j < 23
    below j g = lt_of_not-le (λ (k : 23 ≤ j). not-le_of_lt h (le_trans (pow_mono k) g))

    more : (j s : ℕ) → j + s ≡ 23 → suc j + s ≡ 24
    more j s e = omega arith

pub subnormal_placed : (b : ℕ) → 0 < b → b < 8388608 → Placed b ((125 - moved b) * 8388608 + b * 2 ^ moved b % 2 ^ 32)
subnormal_placed b p h =
    let t = subnormal_moved b p h in
    let s = moved b in
    let n = (125 - s) * 8388608 + b * 2 ^ s in
    let few = t.few in
    let lo = t.lo in
    let hi = t.hi in
    let sum : 149 ≡ s + (n / 8388608 + 23) = omega arith in
    let same : b * 2 ^ s ≡ 8388608 + n % 8388608 = omega arith in
    subst (λ (z : ℕ). Placed b ((125 - s) * 8388608 + z)) (sym t.is)
    (record {
      small = omega arith;
      is =
          ap (λ (z : ℕ). z * 2 ^ 149) (subnormal_units b p h)
          ∙ ap (λ (z : ℕ). b * 2 ^ z) sum
          ∙ ap (λ (z : ℕ). b * z) (pow-add 2 s (n / 8388608 + 23))
          ∙ sym (mul_assoc b (2 ^ s) (2 ^ (n / 8388608 + 23)))
          ∙ ap (λ (z : ℕ). z * 2 ^ (n / 8388608 + 23)) same;
    })
