-- What the check says of each body: where it stands, and that the rest follows it. The triples are taken one by one, as the loops take them.
-- Assumes nothing.
use Rattle.std.specs.Prelude.{ℕ, zero, suc, ◌+◌, ◌-◌, ◌*◌, ◌≤◌, ◌<◌, ◌≡◌, refl, List, [], ◌∷◌, true, length, get_or, take, drop, eqb, leb, ltb}
use Rattle.std.proofs.Common.{arith, add-one, sym, ap, eqb-true, leb-true}
use Rattle.std.proofs.lemmas.Bool.{and_parts}
use Rattle.capture_check.specs.Contents.{Body, triple, triples, body_count, contents, contents_end, words_in, sized, lies, gapless, shaped}

-- ---- the triples, one by one

pub triples_more : (w : List ℕ) (i n : ℕ) → i < n → triples w i (n - i) ≡ triple w i ∷ triples w (i + 1) (n - (i + 1))
unfolding triples
triples_more w i n h =
    let e : n - i ≡ suc (n - (i + 1)) = omega arith in
    rw e (ap (λ (j : ℕ). triple w i ∷ triples w j (n - (i + 1))) (sym (add-one i)))

pub triples_all : (w : List ℕ) (n : ℕ) → triples w 0 (n - 0) ≡ triples w 0 n
triples_all w n = let e : n - 0 ≡ n = omega arith in rw e

pub triples_none : (w : List ℕ) (i n : ℕ) → n ≤ i → triples w i (n - i) ≡ []
unfolding triples
triples_none w i n h = let e : n - i ≡ 0 = omega arith in rw e

triples_count : (w : List ℕ) (i k : ℕ) → length (triples w i k) ≡ k
unfolding triples
triples_count w i zero = refl
triples_count w i (suc k) = ap suc (triples_count w (suc i) k)

pub contents_count : (w : List ℕ) → length (contents w) ≡ body_count w
contents_count w = triples_count w 0 (body_count w)

-- ---- a body that lies where it is due

pub lies-offset : (b : Body) (at end : ℕ) → lies b at end ≡ true → b.offset ≡ at
unfolding lies
lies-offset b at end e = eqb-true b.offset at (and_parts (eqb b.offset at) _ e).0

pub lies_end : (b : Body) (at end : ℕ) → lies b at end ≡ true → at + b.size ≤ end
unfolding lies
lies_end b at end e =
    leb-true (at + b.size) end (and_parts (leb (at + b.size) end) _ (and_parts (eqb b.offset at) _ e).1).0

pub gapless_head : (b : Body) (bs : List Body) (at end : ℕ) → gapless (b ∷ bs) at end ≡ true → lies b at end ≡ true
unfolding gapless
gapless_head b bs at end e = (and_parts (lies b at end) _ e).0

pub gapless_rest : (b : Body) (bs : List Body) (at end : ℕ) → gapless (b ∷ bs) at end ≡ true → gapless bs (at + b.size) end ≡ true
unfolding gapless
gapless_rest b bs at end e = (and_parts (lies b at end) _ e).1

-- body i of n, which is due at `at` of `end` words, its size s being read from the contents
module _ (w : List ℕ) (i n at end s : ℕ) (h : i < n) (g : gapless (triples w i (n - i)) at end ≡ true) (q : s ≡ get_or w (3 + 3 * i) 0) where
  there : lies (triple w i) at end ≡ true
  there =
      gapless_head (triple w i) (triples w (i + 1) (n - (i + 1))) at end (rw (triples_more w i n h) at g)

  pub body_end : at + s ≤ end
  body_end = rw q (lies_end (triple w i) at end there)

  pub body_rest : gapless (triples w (i + 1) (n - (i + 1))) (at + s) end ≡ true
  body_rest =
      rw q
      (gapless_rest (triple w i) (triples w (i + 1) (n - (i + 1))) at end (rw (triples_more w i n h) at g))

  pub body_words : take s (drop at w) ≡ words_in w (triple w i)
  body_words = rw (q, ← lies-offset (triple w i) at end there)

-- ---- the whole

pub shaped_end : (w : List ℕ) → shaped w ≡ true → contents_end (body_count w) ≤ length w
unfolding shaped
shaped_end w e =
    leb-true _ _ (and_parts (leb (contents_end (body_count w)) (length w)) _ (and_parts (leb (body_count w) 16) _ e).1).0

pub shaped-gapless : (w : List ℕ) → shaped w ≡ true → gapless (contents w) (contents_end (body_count w)) (length w) ≡ true
unfolding shaped
shaped-gapless w e =
    (and_parts (leb (contents_end (body_count w)) (length w)) _ (and_parts (leb (body_count w) 16) _ e).1).1

pub sized_most : (n : ℕ) → sized n ≡ true → n ≤ 65536
unfolding sized
sized_most n e = leb-true n 65536 (and_parts (leb n 65536) _ (and_parts (ltb 0 n) _ e).1).0
