-- A number below 1000 has at most three digits: each of the definition's cases has so many. Assumes nothing.
use Rattle.std.specs.Prelude.{ℕ, ◌/◌, ◌%◌, ◌≤◌, [], ◌∷◌, Bool, true, false, cond, length, ltb}
use Rattle.std.proofs.Common.{arith}
use Rattle.printing.specs.Printing.{digit_byte, decimal}

pub decimal_most : (k : ℕ) → length (decimal k) ≤ 3
unfolding decimal
decimal_most k = go (ltb k 10) (ltb k 100)
  where
    go : (a b : Bool) → length (cond a (digit_byte k ∷ []) (cond b (digit_byte (k / 10) ∷ digit_byte (k % 10) ∷ []) (digit_byte (k / 100) ∷ digit_byte (k / 10 % 10) ∷ digit_byte (k % 10) ∷ []))) ≤ 3
    go true b = omega arith
    go false true = omega arith
    go false false = omega arith
