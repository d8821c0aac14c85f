-- The code of the calls on lent words, part by part: a read anew puts flag, kept words and block one after another, and the kept block is what stands after them.
-- Where shading does not take the block that a read leaves, nothing was read anew, so the cache is as it was. Assumes nothing.
use Rattle.std.specs.Prelude.{ℕ, zero, suc, ◌≤◌, List, [], ◌∷◌, ◌++◌, Bool, ◌||◌, length, get_or, set, take, drop, replicate, Some, is_some}
use Rattle.std.proofs.Common.{arith, ap, ◌∙◌, append-nil, length-append, length-drop, drop_of_length-le, take_at, drop_at, take_all}
use borrow.Rule.Slice.PartMut.{put_mid}
use Rattle.std.proofs.Math.Path.{◌≡◌, refl, sym}
use Rattle.std.proofs.Math.Bool.{true, false, cond}
use borrow.Author.Tests.{le-leb, eq-eqb, ne_eqb, leb-true}
use Rattle.refusals.specs.declared.Refusal.{Refusal}
use Rattle.refusals.specs.Refusals.{number_of, file_refusal, block_refusal, tables_refusal, ◌else◌}
use Rattle.block.specs.declared.BlockForm.{BlockForm}
use Rattle.block.specs.declared.BlockForm.TheVariants.{Off, NotWellFormed, NanFree, WithNan}
use Rattle.block.specs.Block.{words, all_zero, well_formed, packed, packed_reading, packing}
use Rattle.block.proofs.AcceptedLaws.{accepted_range}
use Rattle.lighting.specs.Lighting.{in_range}
use Rattle.lighting.specs.declared.Lighting.{Lighting}
use Rattle.decoding.proofs.DecodeLaws.{read_unlit}
use Rattle.block.specs.Steps.{nan_free, form_of, block_form}
use Rattle.block.specs.FormedLaws.{formed_parts}
use Rattle.block.proofs.ReadLaws.{all_zero_words}
use Rattle.block.specs.TestLaws.{never}
use Rattle.decoding.specs.Read.{read, registers_read}
use Rattle.decoding.proofs.KeptLaws.{kept_whole}
use Rattle.unit.specs.Unit.{packable, read_number, read_packed, read_packed_if, cached_block, handed, hand_over_refusal}
use Rattle.unit.specs.Steps.{is_formed}
use Rattle.tables.specs.RefusalLaws.{refusal_not_zero, else_left, else_right}
use Rattle.unit.specs.HandOverLaws.{long_file, by_number}
use Rattle.unit.specs.DecodedLaws.{decoded_packable, packed_length}
use Rattle.unit.proofs.MeaningLaws.{decoded_formed, anew_block, other_hand_over_refused}
use Rattle.unit.specs.CacheWords.{cache_count, cache_block, cache_refusal, formed, current_words, anew_words, refreshed_words, cached_words_if, cached_read_words, block_number, packs_cached_words, cached_read_packed_words_if, cached_read_packed_words, taken_words, hand_over_words_read, hand_over_words_if, hand_over_words}

-- ---- a block

-- each form but one
pub other_formed : (f : BlockForm) → (f ≡ NotWellFormed → ⊥) → is_formed f ≡ true
unfolding is_formed
other_formed Off n = refl
other_formed NotWellFormed n = absurd (n refl)
other_formed NanFree n = refl
other_formed WithNan n = refl

module _ (b : List ℕ) (n : length b ≡ 328) where
  -- the form tells whether shading takes it
  pub form_formed : is_formed (block_form b) ≡ formed b
  unfolding block_form form_of formed is_formed
  form_formed = rw (eq-eqb (length b) 328 n) (go (all_zero (words b)) (well_formed (words b)) (nan_free (words b)))
    where
      go : (z w p : Bool) → is_formed (cond z Off (cond w (cond p NanFree WithNan) NotWellFormed)) ≡ (z || w)
      go true w p = refl
      go false true true = refl
      go false true false = refl
      go false false p = refl

  -- one that has no light is all zero, and any other is lit
  pub off_block : formed b ≡ true → get_or b 1 0 ≡ 0 → (replicate 328 0 ≡ b) × (100 ≡ block_number b)
  unfolding formed block_number
  off_block h k = go (all_zero (words b)) refl h
    where
      go : (z : Bool) → all_zero (words b) ≡ z → (z || well_formed (words b)) ≡ true → (replicate 328 0 ≡ b) × (◌≡◌ {A = ℕ} 100 (cond z 100 0))
      go true e f = (all_zero_words b n e, refl)
      go false e f = let some : 1 ≤ words b 1 = leb-true 1 (words b 1) (formed_parts (words b) f).shape.some in absurd (omega (arith, k))

  pub lit_block : (get_or b 1 0 ≡ 0 → ⊥) → 0 ≡ block_number b
  unfolding block_number
  lit_block k = go (all_zero (words b)) refl
    where
      go : (z : Bool) → all_zero (words b) ≡ z → ◌≡◌ {A = ℕ} 0 (cond z 100 0)
      go true e = absurd (k (rw (sym (all_zero_words b n e)) refl))
      go false e = refl

-- ---- a file's reading

module _ (f : List ℕ) where
  -- a decoded lighting is in range
  pub decoded_range : (l : Lighting) → read f ≡ Some l → in_range l ≡ true
  unfolding packable
  decoded_range l e = accepted_range l (rw e at (decoded_packable f))

  pub reading_lit : (l : Lighting) → read f ≡ Some l → (packed l ≡ packed_reading (read f)) × (0 ≡ read_number (read f))
  unfolding packed_reading read_number
  reading_lit l e = rw e (refl, refl)

  pub reading_off : is_some (read f) ≡ false → (replicate 328 0 ≡ packed_reading (read f)) × (100 ≡ read_number (read f))
  unfolding packed_reading read_number
  reading_off e = rw (read_unlit f e) (refl, refl)

-- ---- a cache

-- flag, kept words and block, one after another
anew_parts : (c k b : List ℕ) → length c ≡ 468 → length k ≡ 139 → length b ≡ 328
    → take 140 (take 1 (set c 0 1) ++ (k ++ drop 139 (drop 1 (set c 0 1)))) ++ (b ++ drop 328 (drop 140 (take 1 (set c 0 1) ++ (k ++ drop 139 (drop 1 (set c 0 1)))))) ≡ 1 ∷ (k ++ b)
anew_parts [] k b n m l = let z : ◌≡◌ {A = ℕ} 0 468 = n in absurd (omega arith)
anew_parts (x ∷ r) k b n m l =
    let rest : length (drop 139 r) ≡ 328 = length-drop 139 r ∙ omega (arith, n) in
    rw (take_at k (drop 139 r) 139 m, drop_at k (drop 139 r) 139 m, drop_of_length-le (drop 139 r) {i = 328} (omega arith), append-nil b) refl

-- in a cache of the right length, the kept words and the block being the file's
pub anew_words_lem : (f c k b : List ℕ) → 474 ≤ length f → length c ≡ 468 → k ≡ registers_read f → b ≡ packed_reading (read f)
    → put_mid 140 328 (put_mid 1 139 (set c 0 1) k) b ≡ anew_words f
unfolding anew_words
anew_words_lem f c k b long n ek eb =
    anew_parts c k b n (ap length ek ∙ kept_whole f long) (ap length eb ∙ packed_length (read f)) ∙ rw (ek, eb) refl

-- the kept block is all that stands after the kept words
pub block_part : (c : List ℕ) → length c ≡ 468 → take 328 (drop 140 c) ≡ cache_block c
block_part c n = take_all 328 (drop 140 c) (omega (arith, length-drop 140 c))

module _ (f : List ℕ) (long : 474 ≤ length f) (c : List ℕ) where
  pub anew_formed : formed (cache_block (anew_words f)) ≡ true
  anew_formed = rw (anew_block f long) (decoded_formed f)

  pub kept_refreshed : current_words f c ≡ true → refreshed_words f c ≡ c
  unfolding refreshed_words
  kept_refreshed e = rw e refl

  pub anew_refreshed : current_words f c ≡ false → refreshed_words f c ≡ anew_words f
  unfolding refreshed_words
  anew_refreshed e = rw e refl

  -- 7 leaves the cache
  pub refused_kept : formed (cache_block (refreshed_words f c)) ≡ false → refreshed_words f c ≡ c
  unfolding refreshed_words
  refused_kept = go (current_words f c)
    where
      go : (x : Bool) → formed (cache_block (cond x c (anew_words f))) ≡ false → cond x c (anew_words f) ≡ c
      go true e = refl
      go false e = never (sym e ∙ anew_formed)

-- ---- refused by length, and past it

-- the cached read is refused with 7, or its block is taken
done_formed : (x : Bool) → ◌≡◌ {A = ℕ} 0 (cond x 0 7) → x ≡ true
done_formed true e = refl
done_formed false e = absurd (omega arith)

not_formed : (x : Bool) (k : Refusal) → number_of k ≡ cond x 0 7 → (x ≡ false) × (number_of k ≡ 7)
not_formed true k e = absurd (refusal_not_zero k e)
not_formed false k e = (refl, e)

-- the first refusal of two is that of three
first_of_three : (a b c k : ℕ) → (k ≡ 0 → ⊥) → k ≡ a else b → k ≡ a else b else c
first_of_three zero zero c k n e = absurd (n e)
first_of_three zero (suc b) c k n e = e
first_of_three (suc a) b c k n e = e

module _ (f b : List ℕ) (k : Refusal) (e : number_of k ≡ file_refusal (length f) else block_refusal (length b)) where
  pub refused_read : packing (number_of k) b ≡ read_packed f b
  unfolding read_packed_if
  refused_read = by_number (λ q. packing q b) (λ q. read_packed_if q f b) (λ q. refl) k (file_refusal (length f) else block_refusal (length b)) e

  pub refused_cached : (c : List ℕ) → cached_block (number_of k) c b ≡ cached_read_packed_words f c b
  unfolding cached_read_packed_words_if
  refused_cached c =
      by_number (λ q. cached_block q c b) (λ q. cached_read_packed_words_if q f c b) (λ q. refl) k (file_refusal (length f) else block_refusal (length b) else cache_refusal (length c))
      (first_of_three (file_refusal (length f)) (block_refusal (length b)) (cache_refusal (length c)) (number_of k) (refusal_not_zero k) e)

-- ---- the cached read and its pack, past the refusals by length

module _ (f c b : List ℕ) (long : 474 ≤ length f) (block : length b ≡ 328) (cache : length c ≡ 468) where
  past_cached : cached_read_packed_words f c b ≡ packs_cached_words (refreshed_words f c) c b
  unfolding cached_read_packed_words_if file_refusal block_refusal cache_refusal
  past_cached = simp (le-leb 474 (length f) long, eq-eqb (length b) 328 block, eq-eqb (length c) cache_count cache)

  cached_refused : formed (cache_block (refreshed_words f c)) ≡ false → cached_block 7 (refreshed_words f c) b ≡ cached_read_packed_words f c b
  unfolding packs_cached_words
  cached_refused e = sym (past_cached ∙ rw (e, refused_kept f long c e) refl)

  -- the cache n is the one that the read left
  module _ (n : List ℕ) (r : n ≡ refreshed_words f c) where
    pub cached_seven : (k : Refusal) → number_of k ≡ cond (formed (cache_block (refreshed_words f c))) 0 7 → cached_block (number_of k) n b ≡ cached_read_packed_words f c b
    cached_seven k e = let q = not_formed (formed (cache_block (refreshed_words f c))) k e in rw (q.1, r) (cached_refused q.0)

    pub cached_formed : ◌≡◌ {A = ℕ} 0 (cond (formed (cache_block (refreshed_words f c))) 0 7) → formed (cache_block n) ≡ true
    cached_formed e = rw r (done_formed _ e)

    pub cached_done : formed (cache_block n) ≡ true → cached_block (block_number (cache_block n)) n (cache_block n) ≡ cached_read_packed_words f c b
    unfolding packs_cached_words
    cached_done e = rw r (sym (past_cached ∙ rw (rw r at e) refl))

-- ---- the hand-over, past the refusals by length

module _ (f t : List ℕ) (g : ℕ) (c b ct : List ℕ) (cg : ℕ) (long : 474 ≤ length f) (tables : length t ≡ 12288) (copied : length ct ≡ 12288) (block : length b ≡ 328) (cache : length c ≡ 468) where
  past_handed : hand_over_words f t g c b ct cg ≡ hand_over_words_read (refreshed_words f c) t g c b ct cg
  unfolding hand_over_words_if file_refusal tables_refusal block_refusal cache_refusal
  past_handed =
      simp (le-leb 474 (length f) long, eq-eqb (length t) 12288 tables, eq-eqb (length ct) 12288 copied, eq-eqb (length b) 328 block, eq-eqb (length c) cache_count cache)

  handed_refused : formed (cache_block (refreshed_words f c)) ≡ false → handed 7 (refreshed_words f c) b ct cg ≡ hand_over_words f t g c b ct cg
  unfolding hand_over_words_read
  handed_refused e = sym (past_handed ∙ rw (e, refused_kept f long c e) refl)

  -- the cache n is the one that the read left
  module _ (n : List ℕ) (r : n ≡ refreshed_words f c) where
    pub handed_seven : (k : Refusal) → number_of k ≡ cond (formed (cache_block (refreshed_words f c))) 0 7 → handed (number_of k) n b ct cg ≡ hand_over_words f t g c b ct cg
    handed_seven k e = let q = not_formed (formed (cache_block (refreshed_words f c))) k e in rw (q.1, r) (handed_refused q.0)

    pub handed_formed : ◌≡◌ {A = ℕ} 0 (cond (formed (cache_block (refreshed_words f c))) 0 7) → formed (cache_block n) ≡ true
    handed_formed e = rw r (done_formed _ e)

    pub handed_taken : formed (cache_block n) ≡ true → (g ≡ cg → ⊥) → handed 0 n (cache_block n) t g ≡ hand_over_words f t g c b ct cg
    unfolding hand_over_words_read taken_words
    handed_taken e d = rw r (sym (past_handed ∙ rw (rw r at e, ne_eqb g cg d) refl))

    pub handed_same : formed (cache_block n) ≡ true → g ≡ cg → handed 0 n (cache_block n) ct cg ≡ hand_over_words f t g c b ct cg
    unfolding hand_over_words_read taken_words
    handed_same e d = rw r (sym (past_handed ∙ rw (rw r at e, eq-eqb g cg d) refl))

-- ---- by length

pub refused_handed : (f t : List ℕ) (g : ℕ) (c b ct : List ℕ) (cg : ℕ) (k : Refusal) → number_of k ≡ hand_over_refusal (length f) (length t) (length ct) (length b) → handed (number_of k) c b ct cg ≡ hand_over_words f t g c b ct cg
unfolding hand_over_words_if
refused_handed f t g c b ct cg k e =
    by_number (λ q. handed q c b ct cg) (λ q. hand_over_words_if q f t g c b ct cg) (λ q. refl) k (hand_over_refusal (length f) (length t) (length ct) (length b) else cache_refusal (length c))
    (first_else (hand_over_refusal (length f) (length t) (length ct) (length b)) e)
  where
    first_else : (a : ℕ) → number_of k ≡ a → number_of k ≡ a else cache_refusal (length c)
    first_else zero p = absurd (refusal_not_zero k p)
    first_else (suc a) p = p

-- a cache of another length
module _ (c : List ℕ) (other : length c ≡ cache_count → ⊥) where
  pub other_handed : (f t : List ℕ) (g : ℕ) (b ct : List ℕ) (cg : ℕ) → hand_over_refusal (length f) (length t) (length ct) (length b) ≡ 0 → handed 101 c b ct cg ≡ hand_over_words f t g c b ct cg
  other_handed f t g b ct cg z = sym (other_hand_over_refused c other f t g b ct cg ∙ ap (λ (q : ℕ). handed (q else 101) c b ct cg) z)

  pub other_cached : (f b : List ℕ) → file_refusal (length f) else block_refusal (length b) ≡ 0 → cached_block 101 c b ≡ cached_read_packed_words f c b
  unfolding cached_read_packed_words_if cache_refusal
  other_cached f b z = rw (else_left (file_refusal (length f)) (block_refusal (length b)) z, else_right (file_refusal (length f)) (block_refusal (length b)) z, ne_eqb (length c) cache_count other) refl

-- a cached read and its pack leave the cache that the cached read by itself leaves, which demand 3's lists speak of
pub reads_alike : (f c b : List ℕ) → length b ≡ 328 → (cached_read_packed_words f c b).cache ≡ (cached_read_words f c).cache
unfolding cached_read_packed_words_if cached_words_if packs_cached_words block_refusal
reads_alike f c b n = rw (eq-eqb (length b) 328 n) (go (file_refusal (length f)) (cache_refusal (length c)) refl)
  where
    by : 474 ≤ length f → (x : Bool) → formed (cache_block (refreshed_words f c)) ≡ x → (cond x (cached_block (block_number (cache_block (refreshed_words f c))) (refreshed_words f c) (cache_block (refreshed_words f c))) (cached_block 7 c b)).cache ≡ refreshed_words f c
    by long true e = refl
    by long false e = sym (refused_kept f long c e)

    go : (q k : ℕ) → file_refusal (length f) ≡ q → (cached_read_packed_words_if (q else 0 else k) f c b).cache ≡ (cached_words_if (q else k) f c).cache
    go zero zero e = by (long_file (length f) e) (formed (cache_block (refreshed_words f c))) refl
    go zero (suc k) e = refl
    go (suc q) k e = refl
