-- What a call is lent: its length is the one that the plain machine is fed, a refused call leaves what stood before, and a slice of an accepted
-- length is the unit's or the copy's own. Assumes nothing.
use Rattle.std.specs.Prelude.{ℕ, ◌≡◌, refl, List, length}
use Rattle.lists.specs.Calls.{Lent, lent, left}
use Rattle.lists.specs.Calls.Lent.{own, instead}
use Rattle.lists.specs.Plain.{size}

pub size-lent : {R : ℕ → Type 0} (s : List ℕ) (l : Lent R) {n : ℕ} → length s ≡ n → length (lent s l) ≡ size n l
size-lent s own e = e
size-lent s (instead t h) e = refl

pub left-lent : {R : ℕ → Type 0} (s : List ℕ) (l : Lent R) → left s l (lent s l) ≡ s
left-lent s own = refl
left-lent s (instead t h) = refl

pub is_own : {R : ℕ → Type 0} (s : List ℕ) (l : Lent R) → (R (length (lent s l)) → ⊥) → l ≡ own
is_own s own h = refl
is_own s (instead t p) h = absurd (h p)
