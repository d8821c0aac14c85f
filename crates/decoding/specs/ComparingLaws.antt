-- Two lists of words are found the same exactly where they are equal, and two parts have no differences exactly where they are equal word by word. Assumes nothing.
use Prim.Native.Nat.{ℕ, zero, suc, ◌+◌, ◌≤◌, ◌<◌}
use native.Mathlib.Omega.{arith}
use Rattle.std.proofs.Math.Numerals.{add-one}
use Rattle.std.specs.Prelude.{◌≡◌, List, [], ◌∷◌, Bool, true, false, not, get_or, eqb}
use Rattle.std.proofs.Math.Path.{refl}
use Rattle.std.proofs.lemmas.Bool.{false≢true, eqb-false, and_parts}
use mir.Val.{bool_byte}
use Rattle.std.proofs.Common.{eqb-true, eq-eqb}
use Rattle.decoding.specs.Steps.{differences}
use Rattle.sources.specs.Sources.{same_words}

pub same_equal : (a b : List ℕ) → same_words a b ≡ true → a ≡ b
unfolding same_words
same_equal [] [] e = refl
same_equal [] (y ∷ ys) e = absurd (false≢true e)
same_equal (x ∷ xs) [] e = absurd (false≢true e)
same_equal (x ∷ xs) (y ∷ ys) e =
    let h = and_parts (eqb x y) (same_words xs ys) e in
    let p : x ≡ y = eqb-true x y h.0 in
    let q : xs ≡ ys = same_equal xs ys h.1 in
    cc

pub same_self : (a : List ℕ) → same_words a a ≡ true
unfolding same_words
same_self [] = refl
same_self (x ∷ xs) = rw (eq-eqb x x refl) (same_self xs)

-- a word more that differs, or not
one_more : (b : Bool) (d : ℕ) → (d + bool_byte (not b) ≤ d + 1) × (d + bool_byte (not b) ≡ 0 → (d ≡ 0) × (b ≡ true)) × (d ≡ 0 → b ≡ true → d + bool_byte (not b) ≡ 0)
one_more true d = (omega arith, λ e. (omega arith, refl), λ e p. omega arith)
one_more false d = (omega arith, λ e. absurd (omega arith), λ e p. absurd (false≢true p))

module _ (a : List ℕ) (from : ℕ) (b : List ℕ) (at : ℕ) where
  pub differences_few : (n : ℕ) → differences a from b at n ≤ n
  unfolding differences
  differences_few zero = omega arith
  differences_few (suc n) =
      omega (arith, differences_few n, (one_more (eqb (get_or a (from + n) 0) (get_or b (at + n) 0)) (differences a from b at n)).0)

  pub differences_more : (n : ℕ) → differences a from b at n + bool_byte (not (eqb (get_or a (from + n) 0) (get_or b (at + n) 0))) ≡ differences a from b at (n + 1)
  unfolding differences
  differences_more n = rw add-one refl

  -- what holds of each word before the last and of the last
  last_or : (x n : ℕ) → ((y : ℕ) → y < n → get_or a (from + y) 0 ≡ get_or b (at + y) 0) → get_or a (from + n) 0 ≡ get_or b (at + n) 0 → x < suc n → get_or a (from + x) 0 ≡ get_or b (at + x) 0
  last_or x n below last h = go (eqb x n) refl
    where
      go : (t : Bool) → eqb x n ≡ t → get_or a (from + x) 0 ≡ get_or b (at + x) 0
      go true q = rw (eqb-true x n q) last
      go false q = below x (omega (arith, eqb-false x n q))

  pub differences_none : (n : ℕ) → differences a from b at n ≡ 0 → (x : ℕ) → x < n → get_or a (from + x) 0 ≡ get_or b (at + x) 0
  unfolding differences
  differences_none zero e x h = absurd (omega arith)
  differences_none (suc n) e x h =
      let parts = (one_more (eqb (get_or a (from + n) 0) (get_or b (at + n) 0)) (differences a from b at n)).1 e in
      last_or x n (differences_none n parts.0) (eqb-true _ _ parts.1) h

  pub none_differences : (n : ℕ) → ((x : ℕ) → x < n → get_or a (from + x) 0 ≡ get_or b (at + x) 0) → differences a from b at n ≡ 0
  unfolding differences
  none_differences zero h = refl
  none_differences (suc n) h =
      (one_more (eqb (get_or a (from + n) 0) (get_or b (at + n) 0)) (differences a from b at n)).2
      (none_differences n (λ x p. h x (omega arith)))
      (eq-eqb _ _ (h n (omega arith)))
