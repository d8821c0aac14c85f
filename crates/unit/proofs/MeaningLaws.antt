-- A call on lent words is the call on the cache that they mean: a read anew keeps words that mean what document 01's keeps, and the block of a
-- cache is the one that packing the cache's lighting gives. Assumes nothing.
use Prim.Native.Nat.{ℕ, zero, suc, ◌-◌, ◌≤◌}
use Rattle.std.specs.Prelude.{◌≡◌, Bool, not, ◌&&◌, ◌||◌, eqb, None, Some}
use Rattle.std.proofs.Math.Path.{refl, ap}
use Rattle.std.proofs.Common.{◌∙◌, length-append, length-drop, ne_eqb}
use mathlib.Core.List.{List}
use Rattle.std.proofs.Math.Bool.{true, false, cond}
use Rattle.std.proofs.Math.ListN.{length}
use Rattle.std.proofs.Math.Seq.{take_at, drop_at}
use Rattle.refusals.specs.Refusals.{file_refusal, block_refusal, ◌else◌}
use Rattle.sources.specs.Sources.{same_words}
use Rattle.tables.specs.RefusalLaws.{else_left}
use Rattle.lighting.specs.Lighting.{blank_lighting, bump_unit, shadow_unit, in_range, on}
use Rattle.lighting.specs.Forms.{every}
use Rattle.decoding.specs.Read.{read, registers_read, registers_read_count}
use Rattle.decoding.proofs.KeptLaws.{kept_whole}
use Rattle.block.specs.Block.{words, all_zero, zeros, well_formed, block_reading, accepted, packed_reading}
use Rattle.block.specs.Claims.{WordsHeld}
use Rattle.block.proofs.ReadLaws.{read_packs, read_accepted}
use Rattle.unit.specs.declared.Cache.{Cache}
use Rattle.unit.specs.Unit.{fresh_cache, cached, keeps, current, read_anew, refreshed, cached_read_if, read_number, cached_block, packs_cached, cached_read_packed_if, handed, hand_over_refusal, packable, taken, hand_over_read, hand_over_if, hand_over}
use Rattle.unit.specs.HandOverLaws.{long_file, hand_over_lengths}
use Rattle.unit.specs.DecodedLaws.{decoded_packable, decoded_reads, packed_formed, packed_length}
use Rattle.unit.specs.CacheWords.{block_place, cache_count, cache_flag, cache_kept, cache_block, empty_words, cache_refusal, formed, current_words, anew_words, refreshed_words, cached_words_if, cached_read_words, block_number, packs_cached_words, cached_read_packed_words_if, taken_words, hand_over_words_read, hand_over_words_if, hand_over_words}
use Rattle.unit.specs.Meaning.{reading_of, cache_of, cached_as, cached_block_as, handed_as, Lendable, HandsOverAsMeant, ReadsPackedAsMeant, ReadsAsMeant}

-- a block that, if it is off or well formed, is packed from its reading
abbrev PacksBack : List ℕ → Type 0
PacksBack b =
    formed b ≡ true → (packable (block_reading (words b)) ≡ true) × (packed_reading (block_reading (words b)) ≡ b)

-- words of 32 bits are
lent_packs : (b : List ℕ) → length b ≡ 328 → WordsHeld (words b) → PacksBack b
unfolding formed packable block_reading
lent_packs b n held h = (go (all_zero (words b)) refl h, read_packs b n held h)
  where
    go : (z : Bool) → all_zero (words b) ≡ z → (z || well_formed (words b)) ≡ true → packable (block_reading (words b)) ≡ true
    go true e k = rw e refl
    go false e k = rw (e, read_accepted b n held k) refl

-- and so is the block of a file's lighting
pub decoded_formed : (f : List ℕ) → formed (packed_reading (read f)) ≡ true
unfolding formed
decoded_formed f = packed_formed (read f) (decoded_packable f)

decoded_packs : (f : List ℕ) → PacksBack (packed_reading (read f))
decoded_packs f h = rw (decoded_reads f) (decoded_packable f, refl)

decoded_reading : (f : List ℕ) → reading_of (packed_reading (read f)) ≡ read f
unfolding reading_of
decoded_reading f = rw (decoded_formed f) (decoded_reads f)

-- `pack` refuses a lighting with no light
none_refused : packable (on blank_lighting) ≡ false
unfolding packable accepted in_range bump_unit shadow_unit blank_lighting
none_refused = refl

-- 7 is met on the words where it is met on their meaning, and the block handed over is the one that is kept
module _ (b : List ℕ) (back : PacksBack b) where
  packable_meant : packable (reading_of b) ≡ formed b
  unfolding reading_of
  packable_meant = go (formed b) refl
    where
      go : (x : Bool) → formed b ≡ x → packable (cond x (block_reading (words b)) (on blank_lighting)) ≡ x
      go true e = (back e).0
      go false e = none_refused

  packed_meant : formed b ≡ true → packed_reading (reading_of b) ≡ b
  unfolding reading_of
  packed_meant e = rw e (back e).1

-- what a read anew keeps
module _ (f : List ℕ) (long : 474 ≤ length f) where
  anew_kept : cache_kept (anew_words f) ≡ registers_read f
  unfolding anew_words
  anew_kept = take_at (registers_read f) (packed_reading (read f)) registers_read_count (kept_whole f long)

  pub anew_block : cache_block (anew_words f) ≡ packed_reading (read f)
  unfolding anew_words
  anew_block = drop_at (registers_read f) (packed_reading (read f)) registers_read_count (kept_whole f long)

  pub anew_long : length (anew_words f) ≡ cache_count
  unfolding anew_words
  anew_long =
      ap (λ (n : ℕ). suc n) (length-append (registers_read f) (packed_reading (read f)))
      ∙ rw (kept_whole f long, packed_length (read f)) refl

  anew_flag : cache_flag (anew_words f) ≡ 1
  unfolding anew_words
  anew_flag = refl

  anew_means : cache_of (anew_words f) ≡ read_anew f
  unfolding cache_of read_anew
  anew_means = rw (anew_flag, anew_kept, anew_block, decoded_reading f) refl

-- what the calls ask of a cache, and keep
pub record Kept (c : List ℕ) : Type 0 where
  pub long : length c ≡ cache_count
  pub back : PacksBack (cache_block c)

lendable_kept : (c : List ℕ) → Lendable c → Kept c
lendable_kept c l =
    record { long = l.long; back = lent_packs (cache_block c) (length-drop block_place c ∙ ap (λ (n : ℕ). n - block_place) l.long) l.held }

pub anew_keeps : (f : List ℕ) → 474 ≤ length f → Kept (anew_words f)
anew_keeps f long = record { long = anew_long f long; back = rw (anew_block f long) (decoded_packs f) }

-- a read that is not refused
module _ (f : List ℕ) (long : 474 ≤ length f) (c : List ℕ) where
  -- a cache of words is empty where its flag is 0
  current_means : current f (cache_of c) ≡ current_words f c
  unfolding current keeps current_words cache_of
  current_means = go (eqb (cache_flag c) 0)
    where
      go : (z : Bool) → keeps (cond z None (Some (cache_kept c))) (registers_read f) ≡ (not z && same_words (cache_kept c) (registers_read f))
      go true = refl
      go false = refl

  refreshed_means : cache_of (refreshed_words f c) ≡ refreshed f (cache_of c)
  unfolding refreshed_words refreshed
  refreshed_means = rw current_means (go (current_words f c))
    where
      go : (x : Bool) → cache_of (cond x c (anew_words f)) ≡ cond x (cache_of c) (read_anew f)
      go true = refl
      go false = anew_means f long

  -- it leaves the cache that it got, or one read anew
  refreshed_leaves : (P : List ℕ → Type 0) → P c → P (anew_words f) → P (refreshed_words f c)
  unfolding refreshed_words
  refreshed_leaves P p q = go (current_words f c)
    where
      go : (x : Bool) → P (cond x c (anew_words f))
      go true = p
      go false = q

-- past the refusals by length, n being what the read leaves
module _ (n : List ℕ) (k : Kept n) (t : List ℕ) (g : ℕ) (c b ct : List ℕ) (cg : ℕ) where
  takes_meant : formed (cache_block n) ≡ true → handed_as cache_of (taken_words n t g ct cg) ≡ taken (cache_of n) t g ct cg
  unfolding taken_words taken cache_of
  takes_meant e = rw (packed_meant (cache_block n) k.back e) (go (eqb g cg))
    where
      go : (x : Bool) → handed_as cache_of (cond x (handed 0 n (cache_block n) ct cg) (handed 0 n (cache_block n) t g)) ≡ cond x (handed 0 (cache_of n) (cache_block n) ct cg) (handed 0 (cache_of n) (cache_block n) t g)
      go true = refl
      go false = refl

  read_meant : handed_as cache_of (hand_over_words_read n t g c b ct cg) ≡ hand_over_read (cache_of n) t g (cache_of c) b ct cg
  unfolding hand_over_words_read hand_over_read cache_of
  read_meant = rw (packable_meant (cache_block n) k.back) (go (formed (cache_block n)) refl)
    where
      go : (x : Bool) → formed (cache_block n) ≡ x → handed_as cache_of (cond x (taken_words n t g ct cg) (handed 7 c b ct cg)) ≡ cond x (taken (cache_of n) t g ct cg) (handed 7 (cache_of c) b ct cg)
      go true e = takes_meant e
      go false e = refl

not_refused : (c : List ℕ) → length c ≡ cache_count → cache_refusal (length c) ≡ 0
unfolding cache_refusal
not_refused c e = rw e refl

module _ (f t : List ℕ) (g : ℕ) (c b ct : List ℕ) (cg : ℕ) where
  refusal : ℕ
  refusal = hand_over_refusal (length f) (length t) (length ct) (length b)

  pub hand_over_means : Kept c → handed_as cache_of (hand_over_words f t g c b ct cg) ≡ hand_over f t g (cache_of c) b ct cg
  unfolding hand_over_words_if hand_over_if refusal
  hand_over_means k = rw (not_refused c k.long) (go refusal refl)
    where
      go : (q : ℕ) → refusal ≡ q → handed_as cache_of (hand_over_words_if (q else 0) f t g c b ct cg) ≡ hand_over_if q f t g (cache_of c) b ct cg
      go zero e =
          let long : 474 ≤ length f = (hand_over_lengths (length f) (length t) (length ct) (length b) e).0 in
          rw (← (refreshed_means f long c))
          (read_meant (refreshed_words f c) (refreshed_leaves f long c Kept k (anew_keeps f long)) t g c b ct cg)
      go (suc q) e = refl

  -- it leaves the cache that it got, or one read anew
  pub hand_over_leaves : (P : List ℕ → Type 0) → P c → (474 ≤ length f → P (anew_words f)) → P (hand_over_words f t g c b ct cg).cache
  unfolding hand_over_words_if hand_over_words_read taken_words refusal
  hand_over_leaves P p q = go (refusal else cache_refusal (length c)) refl
    where
      copied : (n : List ℕ) → P n → (x y : Bool) → P (cond x (cond y (handed 0 n (cache_block n) ct cg) (handed 0 n (cache_block n) t g)) (handed 7 c b ct cg)).cache
      copied n h true true = h
      copied n h true false = h
      copied n h false y = p

      go : (r : ℕ) → refusal else cache_refusal (length c) ≡ r → P (hand_over_words_if r f t g c b ct cg).cache
      go zero e =
          let long : 474 ≤ length f = (hand_over_lengths (length f) (length t) (length ct) (length b) (else_left refusal _ e)).0 in
          copied (refreshed_words f c) (refreshed_leaves f long c P p (q long)) (formed (cache_block (refreshed_words f c))) (eqb g cg)
      go (suc r) e = p

-- a cached read and its pack
module _ (n : List ℕ) (k : Kept n) (c b : List ℕ) where
  off_as_read : (z : Bool) → all_zero (words (cache_block n)) ≡ z → formed (cache_block n) ≡ true → block_number (cache_block n) ≡ read_number (reading_of (cache_block n))
  unfolding block_number read_number reading_of block_reading
  off_as_read true z e = rw (e, z) refl
  off_as_read false z e = rw (e, z) refl

  packs_meant : cached_block_as cache_of (packs_cached_words n c b) ≡ packs_cached (cache_of n) (cache_of c) b
  unfolding packs_cached_words packs_cached cache_of
  packs_meant = rw (packable_meant (cache_block n) k.back) (go (formed (cache_block n)) refl)
    where
      go : (x : Bool) → formed (cache_block n) ≡ x
          → cached_block_as cache_of (cond x (cached_block (block_number (cache_block n)) n (cache_block n)) (cached_block 7 c b))
          ≡ cond x (cached_block (read_number (reading_of (cache_block n))) (cache_of n) (packed_reading (reading_of (cache_block n)))) (cached_block 7 (cache_of c) b)
      go true e = rw (packed_meant (cache_block n) k.back e, off_as_read (all_zero (words (cache_block n))) refl e) refl
      go false e = refl

pub reads_packed_as_meant : ReadsPackedAsMeant
unfolding cached_read_packed_words_if cached_read_packed_if
reads_packed_as_meant f c b l = rw (not_refused c l.long) (go (file_refusal (length f)) (block_refusal (length b)) refl)
  where
    k : Kept c
    k = lendable_kept c l

    go : (q r : ℕ) → file_refusal (length f) ≡ q → cached_block_as cache_of (cached_read_packed_words_if (q else r else 0) f c b) ≡ cached_read_packed_if (q else r) f (cache_of c) b
    go zero zero e =
        let long : 474 ≤ length f = long_file (length f) e in
        rw (← (refreshed_means f long c)) (packs_meant (refreshed_words f c) (refreshed_leaves f long c Kept k (anew_keeps f long)) c b)
    go zero (suc r) e = refl
    go (suc q) r e = refl

pub hands_over_as_meant : HandsOverAsMeant
hands_over_as_meant f t g c b ct cg l = hand_over_means f t g c b ct cg (lendable_kept c l)

pub reads_as_meant : ReadsAsMeant
unfolding cached_words_if cached_read_if
reads_as_meant f c n = rw (not_refused c n) (go (file_refusal (length f)) refl)
  where
    go : (q : ℕ) → file_refusal (length f) ≡ q → cached_as cache_of (cached_words_if (q else 0) f c) ≡ cached_read_if q f (cache_of c)
    go zero e =
        let long : 474 ≤ length f = long_file (length f) e in
        ap (λ (w : Cache). cached 0 w) (refreshed_means f long c)
    go (suc q) e = refl

pub cached_read_leaves : (f c : List ℕ) (P : List ℕ → Type 0) → P c → (474 ≤ length f → P (anew_words f)) → P (cached_read_words f c).cache
unfolding cached_words_if
cached_read_leaves f c P p q = go (file_refusal (length f) else cache_refusal (length c)) refl
  where
    go : (r : ℕ) → file_refusal (length f) else cache_refusal (length c) ≡ r → P (cached_words_if r f c).cache
    go zero e =
        let long : 474 ≤ length f = long_file (length f) (else_left (file_refusal (length f)) _ e) in
        refreshed_leaves f long c P p (q long)
    go (suc r) e = p

-- a cache of another length, past the refusals before it: 101, and nothing changes
module _ (c : List ℕ) (other : length c ≡ cache_count → ⊥) where
  other_refused : cache_refusal (length c) ≡ 101
  unfolding cache_refusal
  other_refused = rw (ne_eqb (length c) cache_count other) refl

  pub other_read_refused : (f : List ℕ) → cached_read_words f c ≡ cached (file_refusal (length f) else 101) c
  unfolding cached_words_if
  other_read_refused f = rw other_refused (go (file_refusal (length f)))
    where
      go : (q : ℕ) → cached_words_if (q else 101) f c ≡ cached (q else 101) c
      go zero = refl
      go (suc q) = refl

  pub other_hand_over_refused : (f t : List ℕ) (g : ℕ) (b ct : List ℕ) (cg : ℕ) → hand_over_words f t g c b ct cg ≡ handed (hand_over_refusal (length f) (length t) (length ct) (length b) else 101) c b ct cg
  unfolding hand_over_words_if
  other_hand_over_refused f t g b ct cg = rw other_refused (go (hand_over_refusal (length f) (length t) (length ct) (length b)))
    where
      go : (q : ℕ) → hand_over_words_if (q else 101) f t g c b ct cg ≡ handed (q else 101) c b ct cg
      go zero = refl
      go (suc q) = refl

pub empty_means : cache_of empty_words ≡ fresh_cache
unfolding cache_of reading_of empty_words fresh_cache formed block_reading all_zero zeros every
empty_means = refl

pub empty_keeps : Kept empty_words
unfolding empty_words formed block_reading all_zero zeros every packed_reading packable
empty_keeps = record { long = refl; back = λ h. (refl, refl) }
