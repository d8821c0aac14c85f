-- `head::lookups_formed` meets its contract: it looks at each run of four words from word 8 on, and a lookup's words are the block's.
use Rattle.std.proofs.Common.{◌≡◌, ◌+◌, ◌*◌, ◌/◌, ◌<◌, ℕ, suc, List, [], ◌∷◌, Bool, ◌&&◌, map, length, take, drop, get_or, arith, rules, refl, sym, ap, ◌∙◌}
use Rattle.std.specs.List.{list_all}
use Rattle.std.specs.Simd.{first_chunks}
use Rattle.std.proofs.lemmas.Iterator.{YieldsList-from_slice}
use Rattle.std.proofs.lemmas.Iterator.Search.{all_from_yields_List}
use Rattle.lighting.specs.Forms.{every}
use Rattle.block.specs.Block.{words, from, lookup_at}
use Rattle.block_check.specs.OrLaws.{every_more}
use Rattle.block_check.specs.Steps.{lookup_formed, lookups_formed}
use Rattle.block_check.proofs.Parts.{chunk_word, part_word, part_length, lookup_same}
use Rattle.block_check.proofs.head.lookups_formed.Goals as goal

every_first : (p : ℕ → Bool) (n : ℕ) → every (suc n) p ≡ (p 0 && every n (λ k. p (1 + k)))
unfolding every
every_first p n = let e : suc n ≡ 1 + n = omega arith in ap (λ (m : ℕ). every m p) e ∙ every_more p 1 n

-- a test of each of a list is that of its numbers
by_number : {X : Type 0} (test : X → Bool) (p : ℕ → Bool) (l : List X) → ((i : ℕ) (d : X) → i < length l → test (get_or l i d) ≡ p i) → list_all test l ≡ every (length l) p
unfolding every
by_number test p [] h = refl
by_number test p (x ∷ xs) h =
    let n : (i : ℕ) → suc i ≡ 1 + i = λ i. omega arith in
    rw (h 0 x (omega arith), by_number test (λ k. p (1 + k)) xs (λ i d m. h (suc i) d (omega arith) ∙ ap p (n i))) (sym (every_first p (length xs)))

-- lookup i of the runs
one : {X : Type 0} (value : X → ℕ) (ws : List X) (cs : List (List X)) (i n : ℕ) (d : List X) → cs ≡ first_chunks 4 n (take 28 (drop 8 ws)) → length cs ≡ 7 → i < length cs
    → lookup_formed (words (map value (get_or cs i d))) ≡ lookup_formed (from (words (map value ws)) (lookup_at i))
one value ws cs i n d e seven h =
    lookup_same _ _ (λ k m.
    let at : 8 + (4 * i + k) ≡ 8 + 4 * i + k = omega arith in
    chunk_word value 4 n _ cs i k d e h m ∙ part_word value ws 8 28 (4 * i + k) (omega (arith, seven)) ∙ ap (words (map value ws)) at)

pub returns : goal.returns
unfolding lookups_formed
returns g c =
    let ws = c.args.block.now in
    let value = g.W.Word.value in
    let cs = c.as_chunks.result.0.now in
    let runs : length cs ≡ length (take 28 (drop 8 ws)) / 4 = rw c.as_slice.ensures at c.as_chunks.ensures.front_len in
    let seven : length cs ≡ 7 = omega (arith, runs, part_length ws 8 28 (omega (arith, c.told-block))) in
    all_from_yields_List (λ l. lookup_formed (words (map value l))) _ _ _ c.all.ensures.ran (YieldsList-from_slice cs cc) (λ x b q k. search rules)
    ∙ rw seven
    at (by_number (λ l. lookup_formed (words (map value l))) (λ i. lookup_formed (from (words (map value ws)) (lookup_at i))) cs
    (λ i d m. one value ws cs i _ d (rw c.as_slice.ensures at c.as_chunks.ensures.front) seven m))
