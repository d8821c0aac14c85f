-- Two files with the same 139 words agree on each register among them, whatever their lengths. A file too short for a part has nothing after it either, so the lengths of the parts follow from the length of the whole. Assumes nothing.
use Rattle.std.specs.Prelude.{ℕ, ◌+◌, ◌-◌, ◌≤◌, ◌<◌, min, ◌≡◌, refl, List, [], ◌∷◌, ◌++◌, ◌⊎◌, Bool, true, false, leb, length, get_or, take, drop}
use Rattle.std.proofs.Common.{ap, ◌∙◌, sym, inl, inr, ⊎_elim, arith, leb-true, leb-false, length-append, length-take, length-drop, get_or-take, get_or-drop}
use Rattle.std.proofs.Math.Nat.{min-le_left}
use Rattle.decoding.specs.Registers.{reg_enable, reg_lights, reg_disable, reg_table_absolute, register_of}
use Rattle.decoding.specs.Read.{registers_read}
use Rattle.decoding.specs.Claims.{SameKept}

fronts : (a b r s : List ℕ) → length a ≡ length b → a ++ r ≡ b ++ s → (a ≡ b) × (r ≡ s)
fronts [] [] r s n e = (refl, e)
fronts [] (y ∷ b) r s n e = absurd (omega arith)
fronts (x ∷ a) [] r s n e = absurd (omega arith)
fronts (x ∷ a) (y ∷ b) r s n e =
    let n' : length a ≡ length b = omega arith in
    let x' : x ≡ y = cc in
    let e' : a ++ r ≡ b ++ s = cc in
    let p = fronts a b r s n' e' in
    (rw (x', p.0) refl, p.1)

part_same : (f g : List ℕ) (n from k : ℕ) → take n (drop from f) ≡ take n (drop from g) → k < n → register_of f (from + k) ≡ register_of g (from + k)
part_same f g n from k e h =
    sym (get_or-drop from f k 0)
    ∙ sym (get_or-take n (drop from f) k 0 h)
    ∙ ap (λ (l : List ℕ). get_or l k 0) e
    ∙ get_or-take n (drop from g) k 0 h
    ∙ get_or-drop from g k 0

kept_length : (f : List ℕ) → length (registers_read f) ≡ 3 + min 133 (length f - 320) + min 3 (length f - 464)
unfolding registers_read
kept_length f = simp (length-append, length-take, length-drop) (omega arith)

pub kept_whole : (f : List ℕ) → 474 ≤ length f → length (registers_read f) ≡ 139
kept_whole f h = kept_length f ∙ omega arith

-- the tables' part is empty, or the lights' is whole
one_whole : (m : ℕ) → (min 3 (m - 464) ≡ 0) ⊎ (min 133 (m - 320) ≡ 133)
one_whole m = go (leb m 464) refl
  where
    go : (b : Bool) → leb m 464 ≡ b → (min 3 (m - 464) ≡ 0) ⊎ (min 133 (m - 320) ≡ 133)
    go true e = let h : m ≤ 464 = leb-true m 464 e in inl (omega arith)
    go false e = let h : 464 < m = leb-false m 464 e in inr (omega arith)

split_same : (a b c d : ℕ) → a ≤ 133 → c ≤ 133 → (b ≡ 0) ⊎ (a ≡ 133) → (d ≡ 0) ⊎ (c ≡ 133) → 3 + a + b ≡ 3 + c + d → a ≡ c
split_same a b c d h k p q e =
    ⊎_elim (λ x. ⊎_elim (λ y. omega arith) (λ y. omega arith) q) (λ x. ⊎_elim (λ y. omega arith) (λ y. omega arith) q) p

pub kept_same : (f g : List ℕ) → registers_read f ≡ registers_read g → SameKept f g
unfolding registers_read
kept_same f g e =
    let total = sym (kept_length f) ∙ ap length e ∙ kept_length g in
    let long : length (take 133 (drop reg_lights f)) ≡ length (take 133 (drop reg_lights g)) =
    simp (length-take, length-drop)
    (split_same _ _ _ _ (min-le_left 133 (length f - 320)) (min-le_left 133 (length g - 320)) (one_whole (length f)) (one_whole (length g)) total) in
    let enable : register_of f reg_enable ≡ register_of g reg_enable = ap (λ (l : List ℕ). get_or l 0 0) e in
    let lights = fronts (take 133 (drop reg_lights f)) (take 133 (drop reg_lights g)) _ _ long (ap (drop 1) e) in
    let disable : register_of f reg_disable ≡ register_of g reg_disable = ap (λ (l : List ℕ). get_or l 0 0) lights.1 in
    let after = ap (drop 1) lights.1 in
    let tables-long : length (take 3 (drop reg_table_absolute f)) ≡ length (take 3 (drop reg_table_absolute g)) =
    omega (arith, simp length-append at (ap length after)) in
    let tables = fronts (take 3 (drop reg_table_absolute f)) (take 3 (drop reg_table_absolute g)) _ _ tables-long after in
    record {
      enable = enable;
      lights = record { blocks = λ k h. part_same f g 133 reg_lights k lights.0 h; slots = ap (λ (l : List ℕ). get_or l 0 0) tables.1 };
      disable = disable;
      tables = λ k h. part_same f g 3 reg_table_absolute k tables.0 h;
    }
