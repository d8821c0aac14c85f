-- Words put together by OR, and tests of words one part after another. The OR of two words is at least each, so it is zero only if both are and below a
-- power of 2 only if both are; a test of a run of numbers is that of its first part and then of its second, by induction on the second. Assumes nothing.
use Rattle.std.specs.Cmp.{both_ways}
use Rattle.std.specs.Prelude.{ℕ, zero, suc, ◌+◌, ◌^◌, ◌<◌, ◌≡◌, refl, Bool, true, false, ◌&&◌, eqb, ltb}
use Rattle.std.proofs.Common.{arith, add-zero, add-suc, add_assoc, ap, ◌∙◌, eqb-true, ne_eqb, ltb-true, lt-ltb}
use Rattle.std.proofs.Math.Bool.{and-true, and_assoc}
use Rattle.std.specs.Int.Bits.{bit_or, or_add_and, or_zero_l}
use Rattle.std.proofs.lemmas.Nat.{or_lt, and_le_l, and_le_r}
use Rattle.std.proofs.lemmas.Bool.{eqb-false, and_parts}
use Rattle.lighting.specs.Forms.{every}
use Rattle.block.specs.Block.{zeros}
use Rattle.block.specs.TestLaws.{◌also◌}
use Rattle.block_check.specs.declared.lanes.Lanes.{Lanes}
use Rattle.block_check.specs.Steps.{clear}

pub is_zero : {m n : ℕ} → m ≡ n → eqb m 0 ≡ eqb n 0
is_zero e = ap (λ (k : ℕ). eqb k 0) e

pub or_more : (n x : ℕ) (a p : Bool) → eqb n 0 ≡ a → eqb x 0 ≡ p → eqb (bit_or n x) 0 ≡ (a && p)
or_more n x true p e q = ap (λ (k : ℕ). eqb (bit_or k x) 0) (eqb-true n 0 e) ∙ ap (λ (k : ℕ). eqb k 0) (or_zero_l x) ∙ q
or_more n x false p e q =
    let z : n ≡ 0 → ⊥ = eqb-false n 0 e in
    ne_eqb (bit_or n x) 0 (λ k. let h : bit_or n x ≡ 0 = k in z (omega (arith, or_add_and n x, and_le_r n x)))

pub or_below : (k n x : ℕ) (limit : ℕ) → 2 ^ k ≡ limit → ltb (bit_or n x) limit ≡ (ltb n limit && ltb x limit)
or_below k n x limit l = both_ways (ltb (bit_or n x) limit) (ltb n limit && ltb x limit) each both
  where
    each : ltb (bit_or n x) limit ≡ true → (ltb n limit && ltb x limit) ≡ true
    each e =
        let h : bit_or n x < limit = ltb-true (bit_or n x) limit e in
        lt-ltb n limit (omega (arith, or_add_and n x, and_le_r n x)) also lt-ltb x limit (omega (arith, or_add_and n x, and_le_l n x))

    both : (ltb n limit && ltb x limit) ≡ true → ltb (bit_or n x) limit ≡ true
    both e =
        let m : n < 2 ^ k = rw l (ltb-true n limit (and_parts (ltb n limit) (ltb x limit) e).0) in
        let y : x < 2 ^ k = rw l (ltb-true x limit (and_parts (ltb n limit) (ltb x limit) e).1) in
        lt-ltb (bit_or n x) limit (rw l at (or_lt k n x m y))

-- two pairs of tests, the other way round
pub across : (a p b q : Bool) → ((a && p) && (b && q)) ≡ ((a && b) && (p && q))
across false p b q = refl
across true p true q = refl
across true true false q = refl
across true false false q = refl

pub across_three : (a p b q c r : Bool) → ((a && p) && (b && q) && (c && r)) ≡ ((a && b && c) && (p && q && r))
across_three a p b q c r = ap (λ (x : Bool). x && (c && r)) (across a p b q) ∙ across (a && b) (p && q) c r

pub across_four : (a p b q c r d s : Bool) → ((a && p) && (b && q) && (c && r) && (d && s)) ≡ ((a && b && c && d) && (p && q && r && s))
across_four a p b q c r d s = ap (λ (x : Bool). x && (d && s)) (across_three a p b q c r) ∙ across (a && b && c) (p && q && r) d s

-- a test of n + m is that of the first n, and then of the others
pub every_more : (p : ℕ → Bool) (n m : ℕ) → every (n + m) p ≡ (every n p && every m (λ k. p (n + k)))
unfolding every
every_more p n zero = rw (and-true, add-zero n) refl
every_more p n (suc m) = rw (add-suc n m) (ap (λ (b : Bool). b && p (n + m)) (every_more p n m) ∙ and_assoc (every n p) (every m (λ k. p (n + k))) (p (n + m)))

-- a test of the words from i on is that of the first n, and then of the others
pub each_more : (t : ℕ → Bool) (w : ℕ → ℕ) (i n m : ℕ) → every (n + m) (λ k. t (w (i + k))) ≡ (every n (λ k. t (w (i + k))) && every m (λ k. t (w (i + n + k))))
unfolding every
each_more t w i n zero = rw (and-true, add-zero n) refl
each_more t w i n (suc m) =
    rw (add-suc n m)
    (ap (λ (b : Bool). b && t (w (i + (n + m)))) (each_more t w i n m)
    ∙ rw (← add_assoc i n m) (and_assoc (every n (λ k. t (w (i + k)))) (every m (λ k. t (w (i + n + k)))) (t (w (i + n + m)))))

pub zeros_more : (w : ℕ → ℕ) (i n m : ℕ) → zeros w i (n + m) ≡ (zeros w i n && zeros w (i + n) m)
unfolding zeros
zeros_more w i n m = each_more (λ x. eqb x 0) w i n m

-- a test of n, and then of m more
pub then_more : (p : ℕ → Bool) (n m : ℕ) (before x y : Bool) → x ≡ (before && every n p) → y ≡ (x && every m (λ k. p (n + k))) → y ≡ (before && every (n + m) p)
then_more p n m before x y e f = rw (f, e, every_more p n m) (and_assoc before (every n p) (every m (λ k. p (n + k))))

-- ---- lanes

-- no bit in any, by the OR of all
pub all_clear : (lanes : Lanes) → eqb (bit_or (bit_or (bit_or lanes.a lanes.b) lanes.c) lanes.d) 0 ≡ clear lanes
unfolding clear
all_clear lanes =
    or_more (bit_or (bit_or lanes.a lanes.b) lanes.c) lanes.d _ _
    (or_more (bit_or lanes.a lanes.b) lanes.c _ _ (or_more lanes.a lanes.b _ _ refl refl) refl) refl

-- a row of four words into its lanes: x, y, z and u are zero exactly if a test of them holds
pub row_more : (p : ℕ → Bool) (lanes : Lanes) (x y z u : ℕ) → eqb x 0 ≡ p 0 → eqb y 0 ≡ p 1 → eqb z 0 ≡ p 2 → eqb u 0 ≡ p 3
    → clear (record { a = bit_or lanes.a x; b = bit_or lanes.b y; c = bit_or lanes.c z; d = bit_or lanes.d u }) ≡ (clear lanes && every 4 p)
unfolding clear every
row_more p lanes x y z u e f g h =
    rw (or_more lanes.a x _ _ refl e, or_more lanes.b y _ _ refl f, or_more lanes.c z _ _ refl g, or_more lanes.d u _ _ refl h)
    (across_four (eqb lanes.a 0) (p 0) (eqb lanes.b 0) (p 1) (eqb lanes.c 0) (p 2) (eqb lanes.d 0) (p 3))
