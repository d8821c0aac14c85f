-- Floor is exact: rounding a whole number of that size changes nothing, since a float with a rest is below 2 ^ 23, and one without is its own floor. Below zero its magnitude is the least whole number that is not below that of x.
-- Assumes nothing.
use Rattle.std.specs.Prelude.{◌≡◌, refl, Bool, true, false, not, ◌&&◌, cond, ℕ, suc, ◌+◌, ◌*◌, ◌/◌, ◌%◌, ◌^◌, ◌≤◌, ◌<◌, ℤ, pos, negsuc, T, eqb, Float}
use Rattle.std.proofs.Common.{sym, ap, ◌∙◌, subst, inl, inr, mul-one, div-one, add-mul, one-mul, div-add-mod', mod-lt, div-lt_iff_lt-mul, lt_of_lt_of_le, le_trans, le_of_eq, mul-le-mul_left, eq-zero-or-pos, zero-lt-suc, arith, eqb→eq, pow_pos, pow_mono}
use Rattle.std.proofs.Math.Nat.{mod-one}
use Rattle.std.specs.Float.{fin, binary32}
use Rattle.std.specs.Float.Ieee.{up, down, round, fits}
use Rattle.std.specs.Float.Ieee.Back.{round_whole}
use Rattle.std.specs.Float.Ieee.Exact.{HasValue}
use Rattle.std.specs.Float.Ieee.Fits.{down_pos}
use Rattle.binary32.specs.ValueLaws.{held, round_own}
use Rattle.binary32.specs.Binary32.{whole_part, has_rest, floor_part, floor_of}

-- ---- it is exact
at_most_one_more : (b : Bool) (q : ℕ) → cond b (q + 1) q ≤ q + 1
at_most_one_more true q = le_of_eq refl
at_most_one_more false q = step q
  where
    step : (q : ℕ) → q ≤ q + 1
    step q = omega arith

no_rest : (s : Bool) (q : ℕ) → cond (s && not (eqb 0 0)) (q + 1) q ≡ q
no_rest true q = refl
no_rest false q = refl

half_as_many : (m k : ℕ) → m < 16777216 → m * 1 / 2 ^ suc k + 1 ≤ 16777216
half_as_many m k h = small (m * 1 / 2 ^ suc k) ((div-lt_iff_lt-mul (pow_pos (suc k))).1 (lt_of_lt_of_le (subst (λ (z : ℕ). z < 16777216) (sym (mul-one m)) h) (mul-le-mul_left 8388608 (pow_mono {i = 1} {j = suc k} (first k)))))
  where
    first : (k : ℕ) → 1 ≤ suc k
    first k = omega arith

    small : (q : ℕ) → q < 8388608 → q + 1 ≤ 16777216
    small q h = omega arith

pub floor_exact : (s : Bool) (m : ℕ) (e : ℤ) → T (fits binary32 (fin s m e)) → HasValue (floor_of (fin s m e)) s (floor_part s m e) 1
unfolding floor_of
floor_exact s m (pos k) h =
    let a = m * 2 ^ k in
    let is : floor_part s m (pos k) ≡ a = ap (λ (r : ℕ). cond (s && not (eqb r 0)) (a / 1 + 1) (a / 1)) (mod-one a) ∙ no_rest s (a / 1) ∙ div-one a in
    let own : HasValue (fin s m (pos k)) s a 1 = (refl, refl) in
    subst (λ (n : ℕ). HasValue (round binary32 s n 1) s n 1) (sym is) (subst (λ (x : Float). HasValue x s a 1) (sym (round_own (fin s m (pos k)) s a 1 h (zero-lt-suc 0) own)) own)
floor_exact s m (negsuc k) h =
    round_whole binary32 s (floor_part s m (negsuc k))
    (le_trans (at_most_one_more (s && has_rest m (negsuc k)) (whole_part m (negsuc k))) (half_as_many m k (held s m (negsuc k) h).few))

-- ---- below zero, in magnitude: n − 1 < m * 2 ^ e ≤ n
bounds : (q r d a : ℕ) (b : Bool) → q * d + r ≡ a → r < d → b ≡ not (eqb r 0) → (a ≤ cond b (q + 1) q * d) × (cond b (q + 1) q * d < a + d)
bounds q r d a true e l t = subst (λ (z : ℕ). (a ≤ z) × (z < a + d)) (sym (add-mul q 1 d ∙ ap (λ (z : ℕ). q * d + z) (one-mul d))) (up_one (q * d) e l (rest r t))
  where
    rest : (r : ℕ) → true ≡ not (eqb r 0) → 0 < r
    rest r t = elim (eq-zero-or-pos r) [ inl z ↦ absurd (subst T (t ∙ ap (λ (k : ℕ). not (eqb k 0)) z) tt) | inr p ↦ p ]

    up_one : (p : ℕ) → p + r ≡ a → r < d → 0 < r → (a ≤ p + d) × (p + d < a + d)
    up_one p e l h = (omega arith, omega arith)
bounds q r d a false e l t = down_none (q * d) e l (none r t)
  where
    none : (r : ℕ) → false ≡ not (eqb r 0) → r ≡ 0
    none r t = go (eqb r 0) (eqb→eq r 0) t
      where
        go : (b : Bool) → (T b → r ≡ 0) → false ≡ not b → r ≡ 0
        go true f u = f tt
        go false f u = absurd (subst (λ (z : Bool). T (not z)) u tt)

    down_none : (p : ℕ) → p + r ≡ a → r < d → r ≡ 0 → (a ≤ p) × (p < a + d)
    down_none p e l h = (omega arith, omega arith)

pub floor_below_zero : (m : ℕ) (e : ℤ) → (m * up e ≤ floor_part true m e * down e) × (floor_part true m e * down e < m * up e + down e)
floor_below_zero m e = bounds (whole_part m e) (m * up e % down e) (down e) (m * up e) (has_rest m e) (div-add-mod' (m * up e) (down e)) (mod-lt (m * up e) (down_pos e)) refl
