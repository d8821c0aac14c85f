-- Each entry of the list is its quotient. One test, which the checker computes, holds the whole list to the 1,024 divisions, and one lemma reads an entry of
-- a list that is made of a function's values. Assumes nothing.
use Rattle.std.specs.Prelude.{ℕ, zero, suc, ◌+◌, ◌<◌, ◌≡◌, refl, List, get_or}
use Rattle.std.proofs.Common.{add-zero, zero-add, add-suc, suc-add, le_of_suc-le-suc, not-suc-le-zero, ap, ◌∙◌}
use Rattle.std.specs.Float.Ieee.{div, of_int, to_bits}
use Rattle.quotients.specs.Steps.{quotient_words}
use Rattle.quotients.specs.Claims.{quotient_word, values_of, AllQuotients, Rule}

-- the test
pub all_quotients : AllQuotients
unfolding AllQuotients quotient_words values_of quotient_word div of_int to_bits
all_quotients = refl

from : (f : ℕ → ℕ) (n i k : ℕ) → k < n → get_or (values_of f i n) k 0 ≡ f (i + k)
unfolding values_of
from f zero i k h = absurd (not-suc-le-zero h)
from f (suc n) i zero h = rw add-zero
from f (suc n) i (suc k) h = from f n (suc i) k (le_of_suc-le-suc h) ∙ rw (suc-add, add-suc)

value_at : (f : ℕ → ℕ) (n k : ℕ) → k < n → get_or (values_of f 0 n) k 0 ≡ f k
value_at f n k h = from f n 0 k h ∙ rw zero-add

pub rule : Rule
unfolding Rule AllQuotients
rule k h = ap (λ (ws : List ℕ). get_or ws k 0) all_quotients ∙ value_at quotient_word 1024 k h
