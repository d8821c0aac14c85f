-- Comparisons of floats by what they say: neither side is NaN, of two floats at most one is less, what equals a zero is a zero, and a zero that binary32 holds is written in one way.
-- Assumes nothing.
use Rattle.std.specs.Prelude.{◌≡◌, refl, Bool, true, false, ◌&&◌, ◌||◌, ℕ, suc, ◌*◌, ◌<◌, ℤ, pos, T, eqb, Float}
use Rattle.std.proofs.Common.{sym, ap, ◌∙◌, subst, true≢false, zero-mul, mul-one, mul-pos, lt_irrefl, le_of_lt, eq-zero-or-pos, zero-lt-suc, inl, inr, ltb-true, le-ltb, eqb-true, eq-eqb}
use Rattle.std.specs.Bool.{beq}
use Rattle.std.specs.Float.{nan, inf, fin, binary32}
use Rattle.std.specs.Float.Ieee.{up, down, below, level, lt, eq, fits, is_nan}
use Rattle.std.specs.Float.Ieee.Fits.{up_pos}
use Rattle.std.proofs.lemmas.Bool.{and_parts}
use Rattle.binary32.specs.ValueLaws.{same_value}

-- ---- what a comparison that holds says
pub lt_left : (x y : Float) → lt x y ≡ true → is_nan x ≡ false
unfolding lt is_nan
lt_left nan y h = absurd (true≢false (sym h))
lt_left (inf s) y h = refl
lt_left (fin s m e) y h = refl

pub lt_right : (x y : Float) → lt x y ≡ true → is_nan y ≡ false
unfolding lt is_nan
lt_right nan y h = absurd (true≢false (sym h))
lt_right (inf s) nan h = absurd (true≢false (sym h))
lt_right (fin s m e) nan h = absurd (true≢false (sym h))
lt_right (inf s) (inf t) h = refl
lt_right (inf s) (fin t n d) h = refl
lt_right (fin s m e) (inf t) h = refl
lt_right (fin s m e) (fin t n d) h = refl

pub eq_right : (x y : Float) → eq x y ≡ true → is_nan y ≡ false
unfolding eq is_nan
eq_right nan y h = absurd (true≢false (sym h))
eq_right (inf s) nan h = absurd (true≢false (sym h))
eq_right (fin s m e) nan h = absurd (true≢false (sym h))
eq_right (inf s) (inf t) h = refl
eq_right (inf s) (fin t n d) h = refl
eq_right (fin s m e) (inf t) h = refl
eq_right (fin s m e) (fin t n d) h = refl

below_asym : (s : Bool) (a : ℕ) (t : Bool) (b : ℕ) → below s a t b ≡ true → below t b s a ≡ false
below_asym false a false b h = le-ltb b a (le_of_lt (ltb-true a b h))
below_asym false a true b h = absurd (true≢false (sym h))
below_asym true a false b h = refl
below_asym true a true b h = le-ltb a b (le_of_lt (ltb-true b a h))

pub lt_asym : (x y : Float) → lt x y ≡ true → lt y x ≡ false
unfolding lt
lt_asym nan y h = absurd (true≢false (sym h))
lt_asym (inf s) nan h = absurd (true≢false (sym h))
lt_asym (fin s m e) nan h = absurd (true≢false (sym h))
lt_asym (inf true) (inf true) h = absurd (true≢false (sym h))
lt_asym (inf true) (inf false) h = refl
lt_asym (inf false) (inf t) h = absurd (true≢false (sym h))
lt_asym (inf true) (fin t n d) h = refl
lt_asym (inf false) (fin t n d) h = absurd (true≢false (sym h))
lt_asym (fin s m e) (inf true) h = absurd (true≢false (sym h))
lt_asym (fin s m e) (inf false) h = refl
lt_asym (fin s m e) (fin t n d) h = below_asym s (m * up e * down d) t (n * up d * down e) h

-- a product with a factor above 0 is 0 only by the other
pub first_zero : (a b : ℕ) → 0 < b → a * b ≡ 0 → a ≡ 0
first_zero a b h e = elim (eq-zero-or-pos a) [ inl z ↦ z | inr p ↦ absurd (lt_irrefl 0 (subst (λ (z : ℕ). 0 < z) e (mul-pos p h))) ]

-- ---- zeros
-- the fractions that comparing 0 and m * 2 ^ e makes
pub below_one : (m : ℕ) (e : ℤ) → 0 * 1 * down e < suc m * up e * 1
below_one m e = subst (λ (z : ℕ). z < suc m * up e * 1) (sym (zero-mul (down e))) (mul-pos (mul-pos (zero-lt-suc m) (up_pos e)) (zero-lt-suc 0))

-- a zero that fits is written in one way
pub zero_is : (s : Bool) (e : ℤ) → T (fits binary32 (fin s 0 e)) → fin s 0 e ≡ fin s 0 (pos 0)
zero_is s e p = same_value (fin s 0 e) (fin s 0 (pos 0)) s 0 1 p (zero_fits s) (zero-lt-suc 0) (refl, ap (λ (z : ℕ). z * 1) (zero-mul (up e)) ∙ sym (zero-mul (down e))) (refl, refl)
  where
    zero_fits : (s : Bool) → T (fits binary32 (fin s 0 (pos 0)))
    zero_fits s = unfold fits in tt

-- what equals a zero is a zero
pub zero_of : (s : Bool) (y : Float) → T (fits binary32 y) → eq (fin s 0 (pos 0)) y ≡ true → (t : Bool) × (y ≡ fin t 0 (pos 0))
unfolding eq
zero_of s nan p h = absurd (true≢false (sym h))
zero_of s (inf t) p h = absurd (true≢false (sym h))
zero_of s (fin t n d) p h =
    let b = n * up d * 1 in
    let is : 0 * 1 * down d ≡ b = eqb-true (0 * 1 * down d) b (and_parts (eqb (0 * 1 * down d) b) (beq s t || eqb (0 * 1 * down d) 0) h).0 in
    let none : n ≡ 0 = first_zero n (up d) (up_pos d) (sym (mul-one (n * up d)) ∙ sym is ∙ zero-mul (down d)) in
    (t, ap (λ (z : ℕ). fin t z d) none ∙ zero_is t d (subst (λ (z : ℕ). T (fits binary32 (fin t z d))) none p))

-- ---- equality is symmetric
eqb_sym : (a b : ℕ) → eqb a b ≡ eqb b a
eqb_sym a b = go (eqb a b) (eqb b a) refl refl
  where
    go : (p q : Bool) → eqb a b ≡ p → eqb b a ≡ q → p ≡ q
    go true true u v = refl
    go true false u v = sym (eq-eqb b a (sym (eqb-true a b u))) ∙ v
    go false true u v = sym u ∙ eq-eqb a b (sym (eqb-true b a v))
    go false false u v = refl

pub level_sym : (s : Bool) (a : ℕ) (t : Bool) (b : ℕ) → level s a t b ≡ level t b s a
level_sym s a t b = go (eqb a b) refl
  where
    beq_sym : (s t : Bool) → beq s t ≡ beq t s
    beq_sym true true = refl
    beq_sym true false = refl
    beq_sym false true = refl
    beq_sym false false = refl

    go : (p : Bool) → eqb a b ≡ p → level s a t b ≡ level t b s a
    go true u =
        ap (λ (z : Bool). z && (beq s t || eqb a 0)) u
        ∙ ap (λ (z : Bool). z || eqb a 0) (beq_sym s t)
        ∙ ap (λ (z : ℕ). beq t s || eqb z 0) (eqb-true a b u)
        ∙ sym (ap (λ (z : Bool). z && (beq t s || eqb b 0)) (eqb_sym b a ∙ u))
    go false u = ap (λ (z : Bool). z && (beq s t || eqb a 0)) u ∙ sym (ap (λ (z : Bool). z && (beq t s || eqb b 0)) (eqb_sym b a ∙ u))

pub eq_sym : (x y : Float) → eq x y ≡ eq y x
unfolding eq
eq_sym nan nan = refl
eq_sym nan (inf t) = refl
eq_sym nan (fin t n d) = refl
eq_sym (inf s) nan = refl
eq_sym (inf true) (inf true) = refl
eq_sym (inf true) (inf false) = refl
eq_sym (inf false) (inf true) = refl
eq_sym (inf false) (inf false) = refl
eq_sym (inf s) (fin t n d) = refl
eq_sym (fin s m e) nan = refl
eq_sym (fin s m e) (inf t) = refl
eq_sym (fin s m e) (fin t n d) = level_sym s (m * up e * down d) t (n * up d * down e)
