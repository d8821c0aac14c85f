-- The pairs that the code takes from a body are the definition's. Assumes nothing.
use Rattle.std.proofs.Common.{ℕ, suc, ◌/◌, ◌≡◌, List, [], ◌∷◌, Bool, length, get_or, refl, ap, arith}
use Rattle.std.specs.Prelude.{ltb, ◌&&◌}
use Rattle.std.specs.List.{list_all}
use Rattle.std.specs.Simd.{first_chunks}
use Rattle.capture_check.specs.Contents.{registers_in}

-- whether the register of a pair is one
abbrev pub low : List ℕ → Bool
low pair = ltb (get_or pair 0 0) 474

pub pairs_low : (l : List ℕ) → list_all low (first_chunks 2 (length l / 2) l) ≡ registers_in l
unfolding registers_in
pairs_low [] = refl
pairs_low (r ∷ []) = refl
pairs_low (r ∷ v ∷ rest) =
    let e : length (r ∷ v ∷ rest) / 2 ≡ suc (length rest / 2) = omega arith in
    rw e (ap (λ (b : Bool). ltb r 474 && b) (pairs_low rest))
