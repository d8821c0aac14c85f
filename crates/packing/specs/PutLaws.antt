-- Rows of words, put one after another. A run of stores that follows another is one run of both. Assumes nothing.
use Rattle.std.specs.Prelude.{ℕ, suc, ◌+◌, ◌≤◌, ◌≡◌, refl, List, [], ◌∷◌, ◌++◌, length, set, replicate, take, drop}
use Rattle.std.proofs.Common.{add-suc, suc-add, add-zero, arith, sym, ap, ◌∙◌, append-nil, drop_of_length-le, drop-drop, append_assoc}
use Rattle.std.proofs.lemmas.List.{length-replicate, replicate-append-replicate}
use Rattle.std.proofs.lemmas.List.Edits.{sets, sets-eq}
use Rattle.std.proofs.Math.Seq.{length-sets}
use borrow.Rule.Slice.PartMut.{put_mid}
use Rattle.packing.specs.Steps.{put_words}

sets_append : (b : List ℕ) (i : ℕ) (xs ys : List ℕ) → sets (sets b i xs) (i + length xs) ys ≡ sets b i (xs ++ ys)
sets_append b i [] ys = ap (λ (k : ℕ). sets b k ys) (add-zero i)
sets_append b i (x ∷ xs) ys =
    ap (λ (k : ℕ). sets (sets (set b i x) (suc i) xs) k ys) (add-suc i (length xs) ∙ sym (suc-add i (length xs)))
    ∙ sets_append (set b i x) (suc i) xs ys

put_append : (b : List ℕ) (i n : ℕ) (xs ys : List ℕ) → length xs ≡ n → put_words (put_words b i xs) (i + n) ys ≡ put_words b i (xs ++ ys)
unfolding put_words
put_append b i n xs ys e = ap (λ (k : ℕ). sets (sets b i xs) (i + k) ys) (sym e) ∙ sets_append b i xs ys

pub length-put : (b : List ℕ) (i : ℕ) (xs : List ℕ) → length (put_words b i xs) ≡ length b
unfolding put_words
length-put b i xs = length-sets b i xs

-- words that are written over a part of a block: k is the part's length, and ys is what it holds then
pub part : (b : List ℕ) (i k : ℕ) (ys ws : List ℕ) → i + length ws ≤ length b → k ≡ length ws → ys ≡ ws → put_mid i k b ys ≡ put_words b i ws
unfolding put_words
part b i k ys ws h e p = rw (p, e, drop-drop (length ws) i b) (sym (append_assoc (take i b) ws (drop (i + length ws) b)) ∙ sym (sets-eq ws b i h))

-- four stores are a row
pub row : (b : List ℕ) (i x y z u : ℕ) → set (set (set (set b i x) (i + 1) y) (i + 2) z) (i + 3) u ≡ put_words b i (x ∷ y ∷ z ∷ u ∷ [])
unfolding put_words
row b i x y z u =
    let e1 : i + 1 ≡ suc i = omega arith in
    let e2 : i + 2 ≡ suc (suc i) = omega arith in
    let e3 : i + 3 ≡ suc (suc (suc i)) = omega arith in
    rw (e1, e2, e3) refl

-- words that are put after others
pub after : (b b' b'' : List ℕ) (i n : ℕ) (xs ys : List ℕ) → length xs ≡ n → b' ≡ put_words b i xs → b'' ≡ put_words b' (i + n) ys → b'' ≡ put_words b i (xs ++ ys)
after b b' b'' i n xs ys e p q = q ∙ ap (λ (x : List ℕ). put_words x (i + n) ys) p ∙ put_append b i n xs ys e

-- one more zero
pub zero_more : (b : List ℕ) (at i : ℕ) → set (put_words b at (replicate i 0)) (at + i) 0 ≡ put_words b at (replicate (i + 1) 0)
unfolding put_words
zero_more b at i =
    ap (λ (k : ℕ). set (sets b at (replicate i 0)) (at + k) 0) (sym (length-replicate i 0))
    ∙ sets_append b at (replicate i 0) (0 ∷ [])
    ∙ ap (λ (ws : List ℕ). sets b at ws) (replicate-append-replicate i 1 0)

-- words put over all of a block
pub whole : (b ws : List ℕ) → length b ≡ length ws → put_words b 0 ws ≡ ws
unfolding put_words
whole b ws e =
    sets-eq ws b 0 (omega arith)
    ∙ ap (λ (r : List ℕ). ws ++ r) (drop_of_length-le b {i = 0 + length ws} (omega arith))
    ∙ append-nil ws
