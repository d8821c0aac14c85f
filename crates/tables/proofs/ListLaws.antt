-- A list of writes goes on pair by pair: the next pair of what is left is written, and then the rest is due. Once a write is refused the rest changes nothing,
-- and where less than a pair is left nothing is due. The pairs are the list's chunks of two. Assumes nothing.
use Rattle.std.specs.Prelude.{◌≡◌, ℕ, zero, suc, ◌+◌, ◌*◌, ◌/◌, ◌<◌, ◌≤◌, Bool, false, cond, List, [], ◌∷◌, length, take, drop, get_or, ◌==◌, ◌≢◌, nat_eq, slice_index}
use Rattle.std.specs.Simd.{first_chunks}
use Rattle.std.proofs.Common.{arith, ◌∙◌, add-zero, length-drop, lit<}
use Rattle.std.proofs.lemmas.List.{get_or-take, get_or-drop, drop-drop}
use Rattle.std.proofs.Math.Path.{refl, sym, ap}
use borrow.Author.Tests.{ne_eqb}
use Rattle.sources.specs.PieceLaws.{drop_two}
use Rattle.tables.specs.Tables.{Wrote, wrote, write, Writes, writes, counted, then_write, write_each}

left : (s : Writes) (r v : ℕ) → (s.number == 0) ≡ false → then_write s r v ≡ s
unfolding then_write
left s r v e = ap (λ (b : Bool). cond b (counted s.done (write s.file s.tables s.generation r v)) s) e

pub stopped : (s : Writes) (l : List ℕ) → (s.number == 0) ≡ false → write_each s l ≡ s
unfolding write_each
stopped s [] e = refl
stopped s (r ∷ []) e = refl
stopped s (r ∷ v ∷ l) e = ap (λ (x : Writes). write_each x l) (left s r v e) ∙ stopped s l e

short : (s : Writes) (l : List ℕ) → length l ≤ 1 → write_each s l ≡ s
unfolding write_each
short s [] h = refl
short s (r ∷ []) h = refl
short s (r ∷ v ∷ l) h = absurd (omega arith)

pub none_left : (s : Writes) (l : List ℕ) (i : ℕ) → i ≡ length l / 2 → write_each s (drop (2 * i) l) ≡ s
none_left s l i e = short s (drop (2 * i) l) (omega (arith, length-drop (2 * i) l))

module _ (f t : List ℕ) (g : ℕ) (l : List ℕ) (i : ℕ) (h : 2 * i + 2 ≤ length l) where
  turn : write_each (writes 0 i f t g) (drop (2 * i) l) ≡ write_each (counted i (write f t g (slice_index l (2 * i)) (slice_index l (2 * i + 1)))) (drop (2 * (i + 1)) l)
  unfolding write_each then_write
  turn = rw (drop_two l i h) refl

  -- a write that is made
  pub made : (f' t' : List ℕ) (g' : ℕ) → wrote 0 f' t' g' ≡ write f t g (slice_index l (2 * i)) (slice_index l (2 * i + 1))
      → write_each (writes 0 (i + 1) f' t' g') (drop (2 * (i + 1)) l) ≡ write_each (writes 0 i f t g) (drop (2 * i) l)
  unfolding counted
  made f' t' g' e = ap (λ (w : Wrote). write_each (counted i w) (drop (2 * (i + 1)) l)) e ∙ sym turn

  -- one that is refused
  pub refused : (k : ℕ) → (k ≢ 0) → (f' t' : List ℕ) (g' : ℕ) → wrote k f' t' g' ≡ write f t g (slice_index l (2 * i)) (slice_index l (2 * i + 1))
      → writes k i f' t' g' ≡ write_each (writes 0 i f t g) (drop (2 * i) l)
  unfolding counted
  refused k n f' t' g' e =
      let z : nat_eq k 0 ≡ false = ne_eqb k 0 n in
      sym (turn ∙ ap (λ (w : Wrote). write_each (counted i w) (drop (2 * (i + 1)) l)) (sym e) ∙ rw z (stopped (writes k i f' t' g') (drop (2 * (i + 1)) l) z))

-- a chunk, and its two words
chunk_at : (k : ℕ) (l : List ℕ) (i : ℕ) (d : List ℕ) → i < k → get_or (first_chunks 2 k l) i d ≡ take 2 (drop (2 * i) l)
chunk_at zero l i d h = absurd (omega arith)
chunk_at (suc k) l zero d h = refl
chunk_at (suc k) l (suc i) d h =
    let e : 2 + 2 * i ≡ 2 * suc i = omega arith in
    chunk_at k (drop 2 l) i d (omega arith) ∙ ap (λ (r : List ℕ). take 2 r) (drop-drop (2 * i) 2 l ∙ ap (λ (n : ℕ). drop n l) e)

word_at : (l : List ℕ) (k i j : ℕ) → i < k → j < 2 → get_or (get_or (first_chunks 2 k l) i []) j 0 ≡ get_or l (2 * i + j) 0
word_at l k i j h b = rw (chunk_at k l i [] h, get_or-take 2 (drop (2 * i) l) j 0 b) (get_or-drop (2 * i) l j 0)

pub pair_at : (c : List (List ℕ)) (k : ℕ) (l : List ℕ) (i : ℕ) → c ≡ first_chunks 2 k l → i < k → (get_or (get_or c i []) 0 0 ≡ slice_index l (2 * i)) × (get_or (get_or c i []) 1 0 ≡ slice_index l (2 * i + 1))
pair_at c k l i e h = rw e (word_at l k i 0 h (lit< tt) ∙ rw add-zero, word_at l k i 1 h (lit< tt))
