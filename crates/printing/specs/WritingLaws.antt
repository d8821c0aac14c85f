-- A text that is written piece by piece is written as a whole, and from the start of a buffer it becomes the buffer's front. Both follow
-- the text's elements. Assumes nothing.
use Rattle.std.specs.Prelude.{ℕ, ◌+◌, ◌-◌, ◌≤◌, ◌<◌, ◌≡◌, refl, List, [], ◌∷◌, ◌++◌, length, get_or, set, drop, take}
use Rattle.std.proofs.Common.{arith, add-one, add-zero, zero-add, sym, ap, ◌∙◌, take_at, append_assoc}
use Rattle.std.proofs.lemmas.List.Edits.{sets, sets-eq}
use borrow.Rule.Slice.PartMut.{put_mid, Post-is}
use Rattle.printing.specs.Steps.{Out, out, puts}
use Rattle.sources.specs.PieceLaws.{drop_one}

pub puts_append : (o : Out) (xs ys : List ℕ) → puts o (xs ++ ys) ≡ puts (puts o xs) ys
unfolding puts
puts_append o [] ys = refl
puts_append o (x ∷ xs) ys = puts_append (out (set o.list o.at x) (o.at + 1)) xs ys

-- a turn of a loop: a piece is put, and the rest is still to come
pub puts_more : (o o' all : Out) (piece rest : List ℕ) → o' ≡ puts o piece → puts o (piece ++ rest) ≡ all → puts o' rest ≡ all
puts_more o o' all piece rest e h = rw e (sym (puts_append o piece rest) ∙ h)

-- a turn that puts the element i of a text
pub puts_next : (l text : List ℕ) (at i x : ℕ) → i < length text → x ≡ get_or text i 0 → puts (out l at) (drop i text) ≡ puts (out (set l at x) (at + 1)) (drop (i + 1) text)
unfolding puts
puts_next l text at i x h e = rw (drop_one text i h, e)

pub puts_at : (o : Out) (xs : List ℕ) → (puts o xs).at ≡ o.at + length xs
unfolding puts
puts_at o [] = sym (add-zero o.at)
puts_at o (x ∷ xs) = puts_at (out (set o.list o.at x) (o.at + 1)) xs ∙ (omega arith)

pub puts_list : (o : Out) (xs : List ℕ) → (puts o xs).list ≡ sets o.list o.at xs
unfolding puts
puts_list o [] = refl
puts_list o (x ∷ xs) =
    puts_list (out (set o.list o.at x) (o.at + 1)) xs ∙ ap (λ (n : ℕ). sets (set o.list o.at x) n xs) (add-one o.at)

-- a text that was put from the start: how long it is, and the buffer afterwards
module _ (l l' text : List ℕ) (r : ℕ) (e : out l' r ≡ puts (out l 0) text) where
  pub put_size : r ≡ length text
  put_size = ap (λ (o : Out). o.at) e ∙ puts_at (out l 0) text ∙ zero-add (length text)

  pub put_list : length text ≤ length l → l' ≡ text ++ drop (length text) l
  put_list h =
      ap (λ (o : Out). o.list) e
      ∙ puts_list (out l 0) text
      ∙ sets-eq text l 0 (rw zero-add h)
      ∙ ap (λ (n : ℕ). text ++ drop n l) (zero-add (length text))

  pub put_front : length text ≤ length l → take r l' ≡ text
  put_front h = rw (put_list h) (take_at text (drop (length text) l) r (sym put_size))

-- a few elements stored in a row
pub puts_two : (l : List ℕ) (i a b : ℕ) → out (set (set l i a) (i + 1) b) (i + 2) ≡ puts (out l i) (a ∷ b ∷ [])
unfolding puts
puts_two l i a b = let e : i + 2 ≡ i + 1 + 1 = omega arith in rw e

pub puts_three : (l : List ℕ) (i a b c : ℕ) → out (set (set (set l i a) (i + 1) b) (i + 2) c) (i + 3) ≡ puts (out l i) (a ∷ b ∷ c ∷ [])
unfolding puts
puts_three l i a b c =
    let e : i + 2 ≡ i + 1 + 1 = omega arith in
    let f : i + 3 ≡ i + 1 + 1 + 1 = omega arith in
    rw (e, f)

pub puts_four : (l : List ℕ) (i a b c d : ℕ) → out (set (set (set (set l i a) (i + 1) b) (i + 2) c) (i + 3) d) (i + 4) ≡ puts (out l i) (a ∷ b ∷ c ∷ d ∷ [])
unfolding puts
puts_four l i a b c d =
    let e : i + 2 ≡ i + 1 + 1 = omega arith in
    let f : i + 3 ≡ i + 1 + 1 + 1 = omega arith in
    let g : i + 4 ≡ i + 1 + 1 + 1 + 1 = omega arith in
    rw (e, f, g)

-- a text copied as a whole
pub puts_copied : (l text : List ℕ) (at : ℕ) → at + length text ≤ length l → out (put_mid at (at + length text - at) l text) (at + length text) ≡ puts (out l at) text
puts_copied l text at h =
    let rest = Post-is at (at + length text) l (omega arith) in
    ap (λ (r : List ℕ). out (take at l ++ (text ++ r)) (at + length text)) rest
    ∙ ap (λ (m : List ℕ). out m (at + length text)) (sym (append_assoc (take at l) text (drop (at + length text) l)))
    ∙ ap (λ (m : List ℕ). out m (at + length text)) (sym (puts_list (out l at) text ∙ sets-eq text l at h))
    ∙ ap (out (puts (out l at) text).list) (sym (puts_at (out l at) text))
