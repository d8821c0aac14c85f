-- What stands in a list from a place on is the next piece, then what stands from the place after it. So a loop that takes a list piece by
-- piece goes by the definition's own steps. Assumes nothing.
use Rattle.std.specs.Prelude.{ℕ, ◌+◌, ◌-◌, ◌*◌, ◌≤◌, ◌<◌, ◌≡◌, List, [], ◌∷◌, length, get_or, take, drop}
use Rattle.std.proofs.Common.{arith, add-one, ap, ◌∙◌, length-take, length-drop, drop_of_length-le, drop-cons}

pub drop_none : (l : List ℕ) (i : ℕ) → length l ≤ i → drop i l ≡ []
drop_none l i h = drop_of_length-le l h

pub drop_one : (l : List ℕ) (i : ℕ) → i < length l → drop i l ≡ get_or l i 0 ∷ drop (i + 1) l
drop_one l i h = rw (add-one, drop-cons l i 0)

pub drop_two : (l : List ℕ) (i : ℕ) → 2 * i + 2 ≤ length l → drop (2 * i) l ≡ get_or l (2 * i) 0 ∷ get_or l (2 * i + 1) 0 ∷ drop (2 * (i + 1)) l
drop_two l i h =
    let h0 : 2 * i < length l = omega arith in
    let h1 : 2 * i + 1 < length l = omega arith in
    let e : 2 * (i + 1) ≡ 2 * i + 1 + 1 = omega arith in
    drop_one l (2 * i) h0 ∙ ap (λ (r : List ℕ). get_or l (2 * i) 0 ∷ r) (rw e (drop_one l (2 * i + 1) h1))

-- the part from `at` to `at + n`
pub part_is : (l : List ℕ) (at n : ℕ) → take (at + n - at) (drop at l) ≡ take n (drop at l)
part_is l at n = let e : at + n - at ≡ n = omega arith in rw e

pub part_length : (l : List ℕ) (at n : ℕ) → at + n ≤ length l → length (take (at + n - at) (drop at l)) ≡ n
part_length l at n h = simp (length-take, length-drop) (omega arith)
