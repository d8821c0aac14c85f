-- A word of a part of a list, or of a chunk of it, is a word of the list, further on by where the part or the chunk begins. Tests of words that are the same
-- word by word answer the same.
use Rattle.std.proofs.Common.{◌≡◌, ℕ, zero, suc, ◌+◌, ◌*◌, ◌<◌, List, Bool, map, take, drop, get_or, length, refl, arith, mul-zero, lit<, length-take, length-take-le, length-drop, ◌≤◌, ap, ◌∙◌}
use Rattle.std.proofs.lemmas.List.{get_or-take, get_or-drop, take-map, drop-map}
use Rattle.std.proofs.Common.{drop-drop}
use Rattle.std.proofs.Math.Nat.{mul-suc}
use Rattle.std.specs.Simd.{first_chunks}
use Rattle.lighting.specs.Forms.{every}
use Rattle.block.specs.Block.{words, zeros}
use Rattle.block_check.specs.Steps.{lookup_formed, light_formed, light_padded, vectors_padded}

pub every_same : (n : ℕ) (p q : ℕ → Bool) → ((k : ℕ) → k < n → p k ≡ q k) → every n p ≡ every n q
unfolding every
every_same zero p q h = refl
every_same (suc n) p q h = rw (every_same n p q (λ k m. h k (omega arith)), h n (omega arith)) refl

pub part_word : {X : Type 0} (f : X → ℕ) (l : List X) (at n k : ℕ) → k < n → words (map f (take n (drop at l))) k ≡ words (map f l) (at + k)
part_word f l at n k h = rw (← take-map f n (drop at l), ← drop-map f at l) (get_or-take n (drop at (map f l)) k 0 h ∙ get_or-drop at (map f l) k 0)

chunk_is : {X : Type 0} (n count : ℕ) (l : List X) (i : ℕ) (d : List X) → i < count → get_or (first_chunks n count l) i d ≡ take n (drop (n * i) l)
chunk_is n zero l i d h = absurd (omega arith)
chunk_is n (suc count) l zero d h = rw (mul-zero n) refl
chunk_is n (suc count) l (suc i) d h =
    let e : n + n * i ≡ n * suc i = rw (mul-suc n i) (omega arith) in
    chunk_is n count (drop n l) i d (omega arith) ∙ ap (λ (r : List _). take n r) (drop-drop (n * i) n l ∙ ap (λ (m : ℕ). drop m l) e)

length_chunks : {X : Type 0} (n count : ℕ) (l : List X) → length (first_chunks n count l) ≡ count
length_chunks n zero l = refl
length_chunks n (suc count) l = ap suc (length_chunks n count (drop n l))

pub chunk_word : {X : Type 0} (f : X → ℕ) (n count : ℕ) (l : List X) (cs : List (List X)) (i k : ℕ) (d : List X) → cs ≡ first_chunks n count l → i < length cs → k < n
    → words (map f (get_or cs i d)) k ≡ words (map f l) (n * i + k)
chunk_word f n count l cs i k d e h m = rw (e, chunk_is n count l i d (rw (e, length_chunks n count l) at h)) (part_word f l (n * i) n k m)

-- the tests of a lookup ask its four words, those of a light its 36
pub lookup_same : (v u : ℕ → ℕ) → ((k : ℕ) → k < 4 → v k ≡ u k) → lookup_formed v ≡ lookup_formed u
unfolding lookup_formed zeros every
lookup_same v u h = rw (h 0 (lit< tt), h 1 (lit< tt), h 2 (lit< tt), h 3 (lit< tt)) refl

pub light_same : (v u : ℕ → ℕ) → ((k : ℕ) → k < 36 → v k ≡ u k) → light_formed v ≡ light_formed u
unfolding light_formed light_padded vectors_padded
light_same v u h =
    rw (h 3 (lit< tt), h 7 (lit< tt), h 11 (lit< tt), h 15 (lit< tt), h 19 (lit< tt), h 23 (lit< tt), h 27 (lit< tt), h 28 (lit< tt), h 29 (lit< tt), h 30 (lit< tt), h 31 (lit< tt), h 32 (lit< tt), h 33 (lit< tt), h 34 (lit< tt), h 35 (lit< tt)) refl

pub part_length : {X : Type 0} (l : List X) (at n : ℕ) → at + n ≤ length l → length (take n (drop at l)) ≡ n
part_length l at n h = simp (length-take, length-drop) (omega arith)

pub part_item : {X : Type 0} (l : List X) (at n i : ℕ) (d : X) → i < n → get_or (take n (drop at l)) i d ≡ get_or l (at + i) d
part_item l at n i d h = get_or-take n (drop at l) i d h ∙ get_or-drop at l i d

pub front_word : {X : Type 0} (f : X → ℕ) (l : List X) (n k : ℕ) → k < n → words (map f (take n l)) k ≡ words (map f l) k
front_word f l n k h = rw (← take-map f n l) (get_or-take n (map f l) k 0 h)

pub chunk_length : {X : Type 0} (n count : ℕ) (l : List X) (cs : List (List X)) (i : ℕ) (d : List X) → cs ≡ first_chunks n count l → i < length cs → n * i + n ≤ length l → length (get_or cs i d) ≡ n
chunk_length n count l cs i d e h room = rw (e, chunk_is n count l i d (rw (e, length_chunks n count l) at h)) (part_length l (n * i) n room)

pub front_length : {X : Type 0} (l : List X) (n : ℕ) → n ≤ length l → length (take n l) ≡ n
front_length l n h = length-take-le n l h
