-- The arms of `pair`: an arm for one number has the list's pair of that number, and what is below 512 and none of 0 to 510 is 511. Assumes nothing.
use Prim.Native.Nat.{ℕ, zero, suc, ◌<◌}
use native.Mathlib.Nat.{not-suc-le-zero}
use native.Mathlib.Omega.{arith}
use mathlib.Core.Path.{◌≡◌, sym, ap}
use lib.ListN.{get_or}
use Rattle.colour_table.specs.Steps.{quotient_pairs}

pub arm : (k x : ℕ) → x ≡ k → get_or quotient_pairs k 0 ≡ get_or quotient_pairs x 0
arm k x h = sym (ap (λ (i : ℕ). get_or quotient_pairs i 0) h)

-- x is none of the numbers below n, as the checker says it in a match's last arm
abbrev pub Rest : ℕ → ℕ → Type 0
Rest zero x = Unit {0}
Rest (suc n) x = Rest n x × (x ≡ n → ⊥)

below : (n x : ℕ) → x < suc n → (x ≡ n → ⊥) → x < n
below n x h other = omega arith

none : (n x : ℕ) → Rest n x → x < n → ⊥
none zero x r h = not-suc-le-zero h
none (suc n) x r h = none n x r.0 (below n x h r.1)

pub last : (n x : ℕ) → Rest n x → x < suc n → x ≡ n
last n x r h = omega (arith, none n x r)
