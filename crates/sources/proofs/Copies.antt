-- A copy of a list, element by element: after i of them both lists begin alike, and at the end they are equal. Assumes nothing.
use Rattle.std.proofs.Common.{◌≡◌, ℕ, ◌+◌, ◌<◌, ◌≤◌, List, [], ◌∷◌, ◌++◌, length, get_or, take, set, sym, ap, ◌∙◌, add-one, take_all, take-suc, take-suc-set}

pub copy_more : (to from : List ℕ) (i : ℕ) → i < length to → i < length from → take i to ≡ take i from → take (i + 1) (set to i (get_or from i 0)) ≡ take (i + 1) from
copy_more to from i h k e =
    rw add-one
    (take-suc-set to i (get_or from i 0) h ∙ ap (λ (l : List ℕ). l ++ (get_or from i 0 ∷ [])) e ∙ sym (take-suc from i 0 k))

pub copy_all : (to from : List ℕ) (i : ℕ) → length to ≤ i → length from ≤ i → take i to ≡ take i from → to ≡ from
copy_all to from i h k e = sym (take_all i to h) ∙ e ∙ take_all i from k
