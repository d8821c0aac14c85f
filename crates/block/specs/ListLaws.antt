-- The words of a list, and where the slots' parts stand among a lighting's words. The head is 40 words long and each slot 36, so the
-- part of slot s begins at 40 + 36 s. Assumes nothing.
use Rattle.std.specs.Prelude.{ℕ, zero, suc, ◌+◌, ◌-◌, ◌*◌, ◌<◌, ◌≤◌, ◌≡◌, refl, Bool, true, false, cond, List, [], ◌∷◌, ◌++◌, eqb, ltb, length, take, drop, replicate}
use Rattle.std.proofs.Common.{arith, add-suc, add-zero, zero-add, suc-add, not-suc-le-zero, sym, ap, ◌∙◌, length-append, length-drop, take_all, drop-cons, drop_at, eqb-true}
use Rattle.std.proofs.lemmas.List.{drop-append-le, take-append-le}
use Rattle.std.proofs.Math.Seq.{drop-append-add}
use Rattle.std.proofs.lemmas.Bool.{eqb-false}
use Rattle.lighting.specs.declared.Light.{Light}
use Rattle.lighting.specs.declared.Lighting.{Lighting}
use Rattle.lighting.specs.Lighting.{light_at, slot_of}
use Rattle.block.specs.Block.{lookup_words, vector_words, head_words, light_words, slot_words, slots_words, packed, words, from, slot_at, distance_words}

-- the n words from i on, one after the other
abbrev pub picks : (ℕ → ℕ) → ℕ → ℕ → List ℕ
picks w i zero = []
picks w i (suc n) = w i ∷ picks w (suc i) n

pub picks_append : (w : ℕ → ℕ) (i n m : ℕ) → picks w i n ++ picks w (i + n) m ≡ picks w i (n + m)
picks_append w i zero m = rw (add-zero, zero-add) refl
picks_append w i (suc n) m = rw (add-suc, suc-add n m, ← suc-add i n) (ap (λ (l : List ℕ). w i ∷ l) (picks_append w (suc i) n m))

pub picks-from : (w : ℕ → ℕ) (a i n : ℕ) → picks (from w a) i n ≡ picks w (a + i) n
picks-from w a i zero = refl
picks-from w a i (suc n) = ap (λ (l : List ℕ). w (a + i) ∷ l) (picks-from w a (suc i) n ∙ ap (λ (k : ℕ). picks w k n) (add-suc a i))

-- equal words before equal lists
pub one : {a b : ℕ} {xs ys : List ℕ} → a ≡ b → xs ≡ ys → (a ∷ xs) ≡ (b ∷ ys)
one p q = cc

pub zero_picks : (w : ℕ → ℕ) (i n : ℕ) → ((k : ℕ) → k < n → w (i + k) ≡ 0) → picks w i n ≡ replicate n 0
zero_picks w i zero f = refl
zero_picks w i (suc n) f =
    one (ap w (sym (add-zero i)) ∙ f 0 (omega arith))
    (zero_picks w (suc i) n (λ k h. ap w (suc-add i k ∙ sym (add-suc i k)) ∙ f (suc k) (omega arith)))

-- of a list

picked : (b : List ℕ) (i n : ℕ) → i + n ≤ length b → take n (drop i b) ≡ picks (words b) i n
picked b i zero h = refl
picked b i (suc n) h =
    ap (λ (l : List ℕ). take (suc n) l) (drop-cons b i 0 (omega arith))
    ∙ ap (λ (l : List ℕ). words b i ∷ l) (picked b (suc i) n (omega arith))

pub picked_all : (b : List ℕ) (n : ℕ) → length b ≡ n → picks (words b) 0 n ≡ b
picked_all b n e = sym (picked b 0 n (omega arith)) ∙ take_all n b (omega arith)

-- of a lighting

pub length_head : (l : Lighting) → length (head_words l) ≡ 40
unfolding head_words lookup_words vector_words
length_head l = refl

length_light : (l : Light) → length (light_words l) ≡ 36
unfolding light_words distance_words vector_words
length_light l = refl

length_slot : (l : Lighting) (s : ℕ) → length (slot_words l (slot_of s)) ≡ 36
unfolding slot_words
length_slot l s = go (ltb s l.light_count)
  where
    go : (b : Bool) → length (cond b (light_words (light_at l (slot_of s))) (replicate 36 0)) ≡ 36
    go true = length_light (light_at l (slot_of s))
    go false = refl

pub length_slots : (l : Lighting) (n : ℕ) → length (slots_words l n) ≡ 36 * n
unfolding slots_words
length_slots l zero = refl
length_slots l (suc n) = let e : length (slots_words l n) ≡ 36 * n = length_slots l n in omega (arith, length-append (slots_words l n) (slot_words l (slot_of n)), length_slot l n)

pub length-packed : (l : Lighting) → length (packed l) ≡ 328
unfolding packed
length-packed l = omega (arith, length-append (head_words l) (slots_words l 8), length_head l, length_slots l 8)

-- the words of a slot, among those of the first n
part_of : (l : Lighting) (n s : ℕ) → s < n → take 36 (drop (36 * s) (slots_words l n)) ≡ slot_words l (slot_of s)
unfolding slots_words
part_of l zero s h = absurd (not-suc-le-zero h)
part_of l (suc n) s h = go (eqb s n) refl (λ k. part_of l n s k)
  where
    go : (b : Bool) → eqb s n ≡ b → (s < n → take 36 (drop (36 * s) (slots_words l n)) ≡ slot_words l (slot_of s)) → take 36 (drop (36 * s) (slots_words l n ++ slot_words l (slot_of n))) ≡ slot_words l (slot_of s)
    go true e r =
        let k : s ≡ n = eqb-true s n e in
        ap (λ (x : List ℕ). take 36 x) (drop_at (slots_words l n) (slot_words l (slot_of n)) (36 * s) (length_slots l n ∙ ap (λ (j : ℕ). 36 * j) (sym k)))
        ∙ take_all 36 (slot_words l (slot_of n)) (omega (arith, length_slot l n))
        ∙ ap (λ (j : ℕ). slot_words l (slot_of j)) (sym k)
    go false e r =
        let ne : s ≡ n → ⊥ = eqb-false s n e in
        let long : length (slots_words l n) ≡ 36 * n = length_slots l n in
        let rest : length (drop (36 * s) (slots_words l n)) ≡ length (slots_words l n) - 36 * s = length-drop (36 * s) (slots_words l n) in
        ap (λ (x : List ℕ). take 36 x) (drop-append-le (36 * s) (slots_words l n) (slot_words l (slot_of n)) (omega arith))
        ∙ take-append-le 36 (drop (36 * s) (slots_words l n)) (slot_words l (slot_of n)) (omega arith)
        ∙ r (omega arith)

packed_part : (l : Lighting) (s : ℕ) → s < 8 → take 36 (drop (slot_at (slot_of s)) (packed l)) ≡ slot_words l (slot_of s)
unfolding packed
packed_part l s h =
    ap (λ (k : ℕ). take 36 (drop (k + 36 * s) (head_words l ++ slots_words l 8))) (sym (length_head l))
    ∙ ap (λ (x : List ℕ). take 36 x) (drop-append-add (head_words l) (slots_words l 8) (36 * s))
    ∙ part_of l 8 s h

slot_of_lem : (l : Lighting) (s : ℕ) → s < 8 → picks (from (words (packed l)) (slot_at (slot_of s))) 0 36 ≡ slot_words l (slot_of s)
slot_of_lem l s h =
    picks-from (words (packed l)) (slot_at (slot_of s)) 0 36
    ∙ ap (λ (k : ℕ). picks (words (packed l)) k 36) (add-zero (slot_at (slot_of s)))
    ∙ sym (picked (packed l) (slot_at (slot_of s)) 36 (omega (arith, length-packed l)))
    ∙ packed_part l s h

pub slot_lit : (l : Lighting) (s : ℕ) → s < 8 → ltb s l.light_count ≡ true → picks (from (words (packed l)) (slot_at (slot_of s))) 0 36 ≡ light_words (light_at l (slot_of s))
unfolding slot_words
slot_lit l s h e = slot_of_lem l s h ∙ rw e refl

pub slot_unlit : (l : Lighting) (s : ℕ) → s < 8 → ltb s l.light_count ≡ false → picks (from (words (packed l)) (slot_at (slot_of s))) 0 36 ≡ replicate 36 0
unfolding slot_words
slot_unlit l s h e = slot_of_lem l s h ∙ rw e refl

pub count_of : (l : Lighting) → words (packed l) 1 ≡ l.light_count
unfolding packed head_words lookup_words vector_words
count_of l = refl

pub picks_at : (w : ℕ → ℕ) (i n j : ℕ) → j < n → words (picks w i n) j ≡ w (i + j)
picks_at w i zero j h = absurd (not-suc-le-zero h)
picks_at w i (suc n) zero h = ap w (sym (add-zero i))
picks_at w i (suc n) (suc j) h = picks_at w (suc i) n j (omega arith) ∙ ap w (suc-add i j ∙ sym (add-suc i j))
