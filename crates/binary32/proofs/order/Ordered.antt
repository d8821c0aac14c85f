-- The larger of two floats by the tests that the code makes, and the smaller by the larger of the two negated: negating turns the order round, that of the zeros too.
-- Assumes nothing.
use mathlib.Core.Path.{◌≡◌, refl, sym, ap, ◌∙◌}
use mathlib.Core.Bool.{Bool, true, false, not, ◌&&◌, ◌||◌, cond, true≢false}
use Prim.Native.Nat.{ℕ, ◌*◌}
use native.Mathlib.Nat.{zero-mul, mul-one, add_comm}
use borrow.Author.Tests.{eqb-true}
use lib.IntN.{pos}
use lib.Dec.{T, ltb, eqb}
use lib.Ieee.{Float, nan, inf, fin, binary32, up, down, below, level, neg, add, lt, eq, fits, is_nan, of_bits}
use lib.Ieee.Fits.{down_pos}
use Rattle.binary32.specs.Binary32.{minus_sign, before, max_of, min_of}
use Rattle.std.proofs.lemmas.Bool.{and_parts}
use Rattle.binary32.specs.CompareLaws.{lt_left, lt_right, eq_right, first_zero, zero_of, level_sym, eq_sym}

-- ---- the larger, by the tests of the code
pub less : (x y : Float) → lt x y ≡ true → y ≡ max_of x y
unfolding max_of before
less x y h = simp (lt_left x y h, lt_right x y h, h)

pub of_nan : (x y : Float) → x ≡ nan → y ≡ max_of x y
unfolding max_of is_nan
of_nan x y e = sym (ap (λ (z : Float). max_of z y) e)

pub unequal : (x y : Float) → T (not (is_nan x)) → lt x y ≡ false → eq x y ≡ false → x ≡ max_of x y
unfolding max_of before
unequal x y n l e = simp (l, e) (go (is_nan x) (is_nan y) n)
  where
    go : (a b : Bool) → T (not a) → x ≡ cond a y (cond b x x)
    go true b t = absurd t
    go false true t = refl
    go false false t = refl

-- two equal floats with different signs are zeros
same_sign : (x y : Float) → eq x y ≡ true → eq x (of_bits binary32 0) ≡ false → (minus_sign x && not (minus_sign y)) ≡ false
unfolding eq of_bits
same_sign nan y h z = refl
same_sign (inf s) nan h z = absurd (true≢false (sym h))
same_sign (inf true) (inf true) h z = refl
same_sign (inf true) (inf false) h z = sym h
same_sign (inf false) (inf t) h z = refl
same_sign (inf s) (fin t n d) h z = absurd (true≢false (sym h))
same_sign (fin s m e) nan h z = absurd (true≢false (sym h))
same_sign (fin s m e) (inf t) h z = absurd (true≢false (sym h))
same_sign (fin false m e) (fin t n d) h z = refl
same_sign (fin true m e) (fin true n d) h z = refl
same_sign (fin true m e) (fin false n d) h z =
    let a = m * up e * down d in
    let none : m * up e ≡ 0 = first_zero (m * up e) (down d) (down_pos d) (eqb-true a 0 (and_parts (eqb a (n * up d * down e)) (eqb a 0) h).1) in
    let at : (u v : ℕ) → u ≡ 0 → v ≡ 0 → level true u false v ≡ true = λ u v p q. ap (λ (k : ℕ). level true k false v) p ∙ ap (λ (k : ℕ). level true 0 false k) q in
    sym (at (m * up e * 1) (0 * 1 * down e) (mul-one (m * up e) ∙ none) (zero-mul (down e))) ∙ z

pub equal : (x y : Float) → T (not (is_nan x)) → lt x y ≡ false → eq x y ≡ true → eq x (of_bits binary32 0) ≡ false → x ≡ max_of x y
unfolding max_of before
equal x y n l e z = simp (l, e, same_sign x y e z, eq_right x y e) (go (is_nan x) n)
  where
    go : (a : Bool) → T (not a) → x ≡ cond a y x
    go true t = absurd t
    go false t = refl

zeros_sum : (s t : Bool) → add binary32 (fin s 0 (pos 0)) (fin t 0 (pos 0)) ≡ max_of (fin s 0 (pos 0)) (fin t 0 (pos 0))
unfolding add max_of before is_nan lt eq
zeros_sum true true = refl
zeros_sum true false = refl
zeros_sum false true = refl
zeros_sum false false = refl

pub both_zero : (x y : Float) → T (fits binary32 x) → T (fits binary32 y) → eq x y ≡ true → eq x (of_bits binary32 0) ≡ true → add binary32 x y ≡ max_of x y
unfolding of_bits
both_zero x y p q e z =
    let u = zero_of false x p (eq_sym (fin false 0 (pos 0)) x ∙ z) in
    let v = zero_of u.0 y q (ap (λ (k : Float). eq k y) (sym u.1) ∙ e) in
    ap (λ (k : Float). add binary32 k y) u.1 ∙ ap (add binary32 (fin u.0 0 (pos 0))) v.1 ∙ zeros_sum u.0 v.0 ∙ ap (max_of (fin u.0 0 (pos 0))) (sym v.1) ∙ ap (λ (k : Float). max_of k y) (sym u.1)

-- ---- negating turns the order round
neg_neg : (x : Float) → neg (neg x) ≡ x
unfolding neg
neg_neg nan = refl
neg_neg (inf true) = refl
neg_neg (inf false) = refl
neg_neg (fin true m e) = refl
neg_neg (fin false m e) = refl

below_neg : (s : Bool) (a : ℕ) (t : Bool) (b : ℕ) → below (not s) a (not t) b ≡ below t b s a
below_neg false a false b = refl
below_neg false a true b = ap (λ (z : ℕ). ltb 0 z) (add_comm a b)
below_neg true a false b = refl
below_neg true a true b = refl

level_neg : (s : Bool) (a : ℕ) (t : Bool) (b : ℕ) → level (not s) a (not t) b ≡ level s a t b
level_neg false a false b = refl
level_neg false a true b = refl
level_neg true a false b = refl
level_neg true a true b = refl

signs_neg : (s t : Bool) → (not s && not (not t)) ≡ (t && not s)
signs_neg true true = refl
signs_neg true false = refl
signs_neg false true = refl
signs_neg false false = refl

joined : {a b c a' b' c' : Bool} → a ≡ a' → b ≡ b' → c ≡ c' → (a || (b && c)) ≡ (a' || (b' && c'))
joined p q r = λ i. p i || (q i && r i)

before_neg : (x y : Float) → is_nan x ≡ false → is_nan y ≡ false → before (neg x) (neg y) ≡ before y x
unfolding before neg lt eq is_nan
before_neg nan y p q = absurd (true≢false p)
before_neg (inf s) nan p q = absurd (true≢false q)
before_neg (fin s m e) nan p q = absurd (true≢false q)
before_neg (inf true) (inf true) p q = refl
before_neg (inf true) (inf false) p q = refl
before_neg (inf false) (inf true) p q = refl
before_neg (inf false) (inf false) p q = refl
before_neg (inf s) (fin t n d) p q = refl
before_neg (fin s m e) (inf true) p q = refl
before_neg (fin s m e) (inf false) p q = refl
before_neg (fin s m e) (fin t n d) p q =
    let a = m * up e * down d in
    let b = n * up d * down e in
    joined (below_neg s a t b) (level_neg s a t b ∙ level_sym s a t b) (signs_neg s t)

nan_neg : (x : Float) → is_nan (neg x) ≡ is_nan x
unfolding is_nan neg
nan_neg nan = refl
nan_neg (inf s) = refl
nan_neg (fin s m e) = refl

pub min_by_max : (x y : Float) → neg (max_of (neg x) (neg y)) ≡ min_of x y
unfolding max_of min_of
min_by_max x y = simp (nan_neg) (go (is_nan x) (is_nan y) refl refl)
  where
    pick : (b : Bool) → neg (cond b (neg y) (neg x)) ≡ cond b y x
    pick true = neg_neg y
    pick false = neg_neg x

    go : (a b : Bool) → is_nan x ≡ a → is_nan y ≡ b → neg (cond a (neg y) (cond b (neg x) (cond (before (neg x) (neg y)) (neg y) (neg x)))) ≡ cond a y (cond b x (cond (before y x) y x))
    go true b p q = neg_neg y
    go false true p q = neg_neg x
    go false false p q = ap (λ (b : Bool). neg (cond b (neg y) (neg x))) (before_neg x y p q) ∙ pick (before y x)
