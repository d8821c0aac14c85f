-- Taking a whole number off y by adding its negative. The two zeros that may be added give the same sum, save at −0. And a float that is a whole number compares as that number does.
-- Assumes nothing.
use mathlib.Core.Path.{◌≡◌, refl, sym, ap, ◌∙◌, subst}
use mathlib.Core.Bool.{Bool, true, false, cond, true≢false}
use Prim.Native.Nat.{ℕ, zero, suc, ◌+◌, ◌-◌, ◌*◌, ◌≤◌, ◌<◌}
use native.Mathlib.Nat.{zero-mul, mul-one, add-zero, sub-zero, mul-pos, zero-lt-suc, le_of_eq}
use native.Mathlib.Omega.{arith}
use borrow.Author.Tests.{lt-ltb, le-ltb, le-leb, lt-leb}
use lib.IntN.{ℤ, pos, negsuc}
use lib.Dec.{ltb}
use lib.Ieee.{Float, nan, inf, fin, binary32, up, down, minus, round, add, sub, lt, of_int}
use lib.Ieee.Exact.{HasValue}
use lib.Ieee.Fits.{up_pos, down_pos}
use Rattle.binary32.specs.DigitLaws.{ltb_scale}
use Rattle.binary32.specs.CastLaws.{neg_round}

-- ---- +0 or −0
-- y + 0, with the zero's sign t: only −0 + 0 turns on it
abbrev zeroed : Bool → Float
zeroed t = fin t 0 (pos 0)

plus : (m : ℕ) (e : ℤ) (t : Bool) → add binary32 (fin false m e) (zeroed t) ≡ round binary32 false (m * up e * 1) (down e * 1)
unfolding add
plus m e false = ap (λ (z : ℕ). round binary32 false z (down e * 1)) (ap (λ (z : ℕ). m * up e * 1 + z) (zero-mul (down e)) ∙ add-zero (m * up e * 1))
plus m e true =
    ap (λ (z : ℕ). cond (ltb (m * up e * 1) z) (round binary32 true (z - m * up e * 1) (down e * 1)) (round binary32 false (m * up e * 1 - z) (down e * 1))) (zero-mul (down e))
    ∙ ap (λ (b : Bool). cond b (round binary32 true (0 - m * up e * 1) (down e * 1)) (round binary32 false (m * up e * 1 - 0) (down e * 1))) (le-ltb (m * up e * 1) 0 (least (m * up e * 1)))
    ∙ ap (λ (z : ℕ). round binary32 false z (down e * 1)) (sub-zero (m * up e * 1))
  where
    least : (a : ℕ) → 0 ≤ a
    least a = omega arith

below : (m : ℕ) (e : ℤ) (t : Bool) → add binary32 (fin true (suc m) e) (zeroed t) ≡ round binary32 true (suc m * up e * 1) (down e * 1)
unfolding add
below m e true = ap (λ (z : ℕ). round binary32 true z (down e * 1)) (ap (λ (z : ℕ). suc m * up e * 1 + z) (zero-mul (down e)) ∙ add-zero (suc m * up e * 1))
below m e false =
    let a = suc m * up e * 1 in
    ap (λ (z : ℕ). cond (ltb a z) (round binary32 false (z - a) (down e * 1)) (round binary32 (ltb z a) (a - z) (down e * 1))) (zero-mul (down e))
    ∙ ap (λ (b : Bool). cond b (round binary32 false (0 - a) (down e * 1)) (round binary32 (ltb 0 a) (a - 0) (down e * 1))) (le-ltb a 0 (least a))
    ∙ ap (λ (b : Bool). round binary32 b (a - 0) (down e * 1)) (lt-ltb 0 a (mul-pos (mul-pos (zero-lt-suc m) (up_pos e)) (zero-lt-suc 0)))
    ∙ ap (λ (z : ℕ). round binary32 true z (down e * 1)) (sub-zero a)
  where
    least : (a : ℕ) → 0 ≤ a
    least a = omega arith

-- ---- what is added, and what is taken off
round_0 : (s : Bool) → round binary32 s 0 1 ≡ zeroed s
unfolding round
round_0 true = refl
round_0 false = refl

-- y, from zero up, less k
pub off_plus : (B k m : ℕ) (e : ℤ) → add binary32 (fin false m e) (of_int binary32 (minus B (B + k))) ≡ sub binary32 (fin false m e) (round binary32 false k 1)
unfolding sub of_int
off_plus B zero m e =
    ap (λ (t : Bool). add binary32 (fin false m e) (of_int binary32 (cond t (pos (B - (B + 0))) (negsuc (B + 0 - suc B))))) (le-leb (B + 0) B (le_of_eq (add-zero B)))
    ∙ ap (λ (z : ℕ). add binary32 (fin false m e) (round binary32 false z 1)) (none B)
    ∙ ap (add binary32 (fin false m e)) (round_0 false)
    ∙ plus m e false
    ∙ sym (ap (add binary32 (fin false m e)) (neg_round binary32 false 0 1 ∙ round_0 true) ∙ plus m e true)
  where
    none : (B : ℕ) → B - (B + 0) ≡ 0
    none B = omega arith
off_plus B (suc k) m e =
    ap (λ (t : Bool). add binary32 (fin false m e) (of_int binary32 (cond t (pos (B - (B + suc k))) (negsuc (B + suc k - suc B))))) (lt-leb (B + suc k) B (more B k))
    ∙ ap (λ (z : ℕ). add binary32 (fin false m e) (round binary32 true (suc z) 1)) (rest B k)
    ∙ sym (ap (add binary32 (fin false m e)) (neg_round binary32 false (suc k) 1))
  where
    more : (B k : ℕ) → B < B + suc k
    more B k = omega arith

    rest : (B k : ℕ) → B + suc k - suc B ≡ k
    rest B k = omega arith

-- y, below zero, less -k: the number B - (B - k) is added
pub off_minus : (B k : ℕ) (y : Float) → k ≤ B → add binary32 y (of_int binary32 (minus B (B - k))) ≡ sub binary32 y (round binary32 true k 1)
unfolding sub of_int
off_minus B k y h =
    ap (λ (t : Bool). add binary32 y (of_int binary32 (cond t (pos (B - (B - k))) (negsuc (B - k - suc B))))) (le-leb (B - k) B (less B k))
    ∙ ap (λ (z : ℕ). add binary32 y (round binary32 false z 1)) (twice B k h)
    ∙ sym (ap (add binary32 y) (neg_round binary32 true k 1))
  where
    less : (B k : ℕ) → B - k ≤ B
    less B k = omega arith

    twice : (B k : ℕ) → k ≤ B → B - (B - k) ≡ k
    twice B k h = omega arith

-- y, below zero, less +0
pub off_zero : (m : ℕ) (e : ℤ) → add binary32 (fin true (suc m) e) (of_int binary32 (pos 0)) ≡ sub binary32 (fin true (suc m) e) (round binary32 false 0 1)
unfolding sub of_int
off_zero m e =
    ap (add binary32 (fin true (suc m) e)) (round_0 false)
    ∙ below m e false
    ∙ sym (ap (add binary32 (fin true (suc m) e)) (neg_round binary32 false 0 1 ∙ round_0 true) ∙ below m e true)

-- ---- whole numbers compare as numbers do
pub test_same : (k p d a : ℕ) → 0 < d → p * 1 ≡ a * d → ltb (k * d) (p * 1) ≡ ltb k a
test_same k p d a h e = ap (λ (z : ℕ). ltb (k * d) z) e ∙ ltb_scale k a d h

-- a whole number n against k
pub above_whole : (x : Float) (n k : ℕ) → HasValue x false n 1 → lt (fin false k (pos 0)) x ≡ ltb k n
unfolding lt
above_whole nan n k v = absurd v
above_whole (inf s) n k v = absurd v
above_whole (fin true m e) n k v = absurd (true≢false v.0)
above_whole (fin false m e) n k v = ap (λ (z : ℕ). ltb (z * down e) (m * up e * 1)) (mul-one k) ∙ test_same k (m * up e) (down e) n (down_pos e) v.1

-- none that is not negative is below 0
pub not_below_zero : (x : Float) (n : ℕ) → HasValue x false n 1 → lt x (fin false 0 (pos 0)) ≡ false
unfolding lt
not_below_zero nan n v = absurd v
not_below_zero (inf s) n v = absurd v
not_below_zero (fin true m e) n v = absurd (true≢false v.0)
not_below_zero (fin false m e) n v = le-ltb (m * up e * 1) (0 * 1 * down e) (subst (λ (z : ℕ). z ≤ m * up e * 1) (sym (zero-mul (down e))) (least (m * up e * 1)))
  where
    least : (a : ℕ) → 0 ≤ a
    least a = omega arith

-- a negative one is
pub below_zero : (x : Float) (n : ℕ) → HasValue x true n 1 → 0 < n → lt x (fin false 0 (pos 0)) ≡ true
unfolding lt
below_zero nan n v h = absurd v
below_zero (inf s) n v h = absurd v
below_zero (fin false m e) n v h = absurd (true≢false (sym v.0))
below_zero (fin true m e) n v h = lt-ltb 0 (m * up e * 1 + 0 * 1 * down e) (more (m * up e * 1) (0 * 1 * down e) (subst (λ (z : ℕ). 0 < z) (sym v.1) (mul-pos h (down_pos e))))
  where
    more : (a b : ℕ) → 0 < a → 0 < a + b
    more a b h = omega arith
