-- The triples of three words each that the code takes from the contents name the definition's bodies, and those of a capture whose form is right lie within its words. Assumes nothing.
use Rattle.std.specs.Prelude.{ℕ, zero, suc, ◌+◌, ◌-◌, ◌*◌, ◌/◌, ◌≤◌, ◌<◌, ◌≡◌, refl, List, [], ◌∷◌, true, false, length, get_or, take, drop}
use Rattle.std.proofs.Common.{arith, ap, ◌∙◌, drop-drop, length-drop, length-take-le}
use Rattle.std.proofs.lemmas.List.{get_or-take, get_or-drop, drop_more, drop_all}
use Rattle.std.specs.Simd.{first_chunks}
use Rattle.capture_check.specs.Contents.{Body, body, triples, body_count, contents, contents_end, words_in, lies, gapless, body_right, registers_right}
use Rattle.capture_check.specs.ContentsLaws.{lies-offset, lies_end, gapless_head, gapless_rest}
use Rattle.capture_check.specs.Steps.{bodies, Within}

-- three words from a place on, among the first m after the count
triple_at : (w : List ℕ) (i m : ℕ) → 3 * (i + 1) ≤ m → (j : ℕ) → j < 3 → get_or (take 3 (drop (3 * i) (take m (drop 1 w)))) j 0 ≡ get_or w (1 + j + 3 * i) 0
triple_at w i m h j k =
    let e : 1 + (3 * i + j) ≡ 1 + j + 3 * i = omega arith in
    let f : 3 * i + j < m = omega arith in
    get_or-take 3 (drop (3 * i) (take m (drop 1 w))) j 0 k
    ∙ get_or-drop (3 * i) (take m (drop 1 w)) j 0
    ∙ get_or-take m (drop 1 w) (3 * i + j) 0 f
    ∙ get_or-drop 1 w (3 * i + j) 0
    ∙ ap (λ (x : ℕ). get_or w x 0) e

bodies_from : (w : List ℕ) (n i m : ℕ) → 3 * (i + n) ≤ m → bodies (first_chunks 3 n (drop (3 * i) (take m (drop 1 w)))) ≡ triples w i n
unfolding bodies triples
bodies_from w zero i m h = refl
bodies_from w (suc n) i m h =
    let e : 3 * i + 3 ≡ 3 * suc i = omega arith in
    let a = triple_at w i m (omega arith) 0 (omega arith) in
    let b = triple_at w i m (omega arith) 1 (omega arith) in
    let c = triple_at w i m (omega arith) 2 (omega arith) in
    let rest = bodies_from w n (suc i) m (omega arith) in
    rw (a, b, c, drop-drop, e, rest) refl

-- all of them
module _ (w : List ℕ) (h : contents_end (body_count w) ≤ length w) where
  abbrev pub among : List ℕ
  among = take (1 + 3 * body_count w - 1) (drop 1 w)

  pub bodies_all : bodies (first_chunks 3 (length among / 3) among) ≡ contents w
  bodies_all =
      let e : 1 + 3 * body_count w - 1 ≡ 3 * body_count w = omega arith in
      let d = length-drop 1 w in
      let l : length among ≡ 3 * body_count w = length-take-le (1 + 3 * body_count w - 1) (drop 1 w) (omega arith) ∙ e in
      let n : length among / 3 ≡ body_count w = omega arith in
      rw n (bodies_from w (body_count w) 0 (1 + 3 * body_count w - 1) (omega arith))

-- the one at i, and those after it
pub bodies_more : (ts : List (List ℕ)) (i : ℕ) → i < length ts
    → bodies (drop i ts) ≡ body (get_or (get_or ts i []) 0 0) (get_or (get_or ts i []) 1 0) (get_or (get_or ts i []) 2 0) ∷ bodies (drop (i + 1) ts)
unfolding bodies
bodies_more ts i h = rw (drop_more ts i [] h) refl

-- a turn of each loop: what was found of the one at i takes what the rest says to the next
module _ (ts : List (List ℕ)) (i : ℕ) (h : i < length ts) where
  abbrev pub here : Body
  here = body (get_or (get_or ts i []) 0 0) (get_or (get_or ts i []) 1 0) (get_or (get_or ts i []) 2 0)

  pub gapless_go : (at end : ℕ) → lies here at end ≡ true → gapless (bodies (drop i ts)) at end ≡ gapless (bodies (drop (i + 1) ts)) (at + get_or (get_or ts i []) 2 0) end
  unfolding gapless
  gapless_go at end e = rw (bodies_more ts i h, e) refl

  pub gapless_stop : (at end : ℕ) → lies here at end ≡ false → gapless (bodies (drop i ts)) at end ≡ false
  unfolding gapless
  gapless_stop at end e = rw (bodies_more ts i h, e) refl

  pub right_go : (w : List ℕ) → body_right here.kind (words_in w here) ≡ true → registers_right w (bodies (drop i ts)) ≡ registers_right w (bodies (drop (i + 1) ts))
  unfolding registers_right
  right_go w e = rw (bodies_more ts i h, e) refl

  pub right_stop : (w : List ℕ) → body_right here.kind (words_in w here) ≡ false → registers_right w (bodies (drop i ts)) ≡ false
  unfolding registers_right
  right_stop w e = rw (bodies_more ts i h, e) refl

pub bodies_none : (ts : List (List ℕ)) (i : ℕ) → length ts ≤ i → bodies (drop i ts) ≡ []
unfolding bodies
bodies_none ts i h = rw (drop_all i ts h) refl

-- each body that is found where it is due ends within the words
pub gapless_within : (ts : List (List ℕ)) (at : ℕ) (w : List ℕ) → gapless (bodies ts) at (length w) ≡ true → Within w ts
unfolding bodies
gapless_within [] at w g k d h = absurd (omega arith)
gapless_within (t ∷ ts) at w g zero d h =
    let b = body (get_or t 0 0) (get_or t 1 0) (get_or t 2 0) in
    let l = gapless_head b (bodies ts) at (length w) g in
    let o : get_or t 1 0 ≡ at = lies-offset b at (length w) l in
    omega (arith, lies_end b at (length w) l)
gapless_within (t ∷ ts) at w g (suc k) d h =
    let b = body (get_or t 0 0) (get_or t 1 0) (get_or t 2 0) in
    gapless_within ts (at + get_or t 2 0) w (gapless_rest b (bodies ts) at (length w) g) k d (omega arith)
