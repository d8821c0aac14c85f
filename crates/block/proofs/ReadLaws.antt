-- Packing a well-formed block's reading gives that block, and `pack` accepts it. The words of the head and of each slot are got back
-- from what they read as, and put together they are the block. Assumes nothing.
use Rattle.std.specs.Prelude.{ℕ, zero, suc, ◌+◌, ◌*◌, ◌<◌, ◌≤◌, ◌≡◌, refl, Bool, true, false, cond, ◌||◌, List, [], ◌∷◌, ◌++◌, eqb, ltb, leb, length, get_or, replicate}
use Rattle.std.proofs.Common.{arith, sym, ap, ◌∙◌, eqb-true, lt-ltb, ltb-true, ltb-false, leb-true, le-leb}
use Rattle.binary32.specs.Binary32.{float_of, word_of}
use Rattle.lighting.specs.declared.Light.{Light}
use Rattle.lighting.specs.Forms.{every}
use Rattle.lighting.specs.Lighting.{light_at, bump_unit, shadow_unit, numbers_fit, in_range, slot_of}
use Rattle.block.specs.Block.{bit_of, lookup_row, lookup_words, vector_words, head_words, flags_word, light_words, slot_words, slots_words, packed, words, from, lookup_at, slot_at, zeros, all_zero, bit_at, padding_zero, float_formed, well_formed, block_lookup, block_optional_lookup, block_vector, block_light, block_slot_light, block_lights, block_lighting, block_reading, accepted, packed_reading, distance_words}
use Rattle.block.specs.Claims.{WordsHeld, ReadPacks, ReadAccepted}
use Rattle.block.specs.TestLaws.{◌also◌, chain_first, chain_part, every_of}
use Rattle.block.specs.FormedLaws.{Formed, formed_parts}
use Rattle.block.specs.SmallLaws.{unused_zero}
use Rattle.block.specs.FlagLaws.{small_bit, flags7, flags_back, needs_word_back}
use Rattle.block.specs.ListLaws.{picks, picks_append, picks-from, picked_all, one, zero_picks}
use Rattle.block.proofs.PackedLaws.{flags_are}
use Rattle.block.specs.WordLaws.{word_back, scale_back, bump_word_back, bump_unit_small, shadow_word_back, shadow_unit_small, LookupFormed, LookupBack, lookup_words_back, zero_at, distance_words_back}

-- a light's words

record LightFormed (v : ℕ → ℕ) : Type 0 where
  flags : ltb (v 32) 128 ≡ true
  without : (bit_at (v 32) 16 || zeros v 28 2) ≡ true
  number : ltb (v 33) 8 ≡ true
  padding : padding_zero v ≡ true
  floats : (j : ℕ) → j < 36 → float_formed (v j) ≡ true

padded : (v : ℕ → ℕ) → padding_zero v ≡ true → (0 ≡ v 3) × (0 ≡ v 7) × (0 ≡ v 11) × (0 ≡ v 15) × (0 ≡ v 19) × (0 ≡ v 23) × (0 ≡ v 27) × (0 ≡ v 30) × (0 ≡ v 31) × (0 ≡ v 34) × (0 ≡ v 35)
unfolding padding_zero
padded v h =
    let cs : List Bool = eqb (v 7) 0 ∷ eqb (v 11) 0 ∷ eqb (v 15) 0 ∷ eqb (v 19) 0 ∷ eqb (v 23) 0 ∷ eqb (v 27) 0 ∷ zeros v 30 2 ∷ zeros v 34 2 ∷ [] in
    let c : (i : ℕ) → get_or cs i true ≡ true = chain_part (eqb (v 3) 0) cs h in (
      sym (eqb-true (v 3) 0 (chain_first (eqb (v 3) 0) cs h)),
      sym (eqb-true (v 7) 0 (c 0)),
      sym (eqb-true (v 11) 0 (c 1)),
      sym (eqb-true (v 15) 0 (c 2)),
      sym (eqb-true (v 19) 0 (c 3)),
      sym (eqb-true (v 23) 0 (c 4)),
      sym (eqb-true (v 27) 0 (c 5)),
      zero_at v 30 2 0 (c 6) (omega arith),
      zero_at v 30 2 1 (c 6) (omega arith),
      zero_at v 34 2 0 (c 7) (omega arith),
      zero_at v 34 2 1 (c 7) (omega arith),
    )

flags_word_back : (v : ℕ → ℕ) (e : Bool) → ltb (v 32) 128 ≡ true → e ≡ bit_at (v 32) 16
    → flags7 (bit_at (v 32) 1) (bit_at (v 32) 2) (bit_at (v 32) 4) (bit_at (v 32) 8) e (bit_at (v 32) 32) (bit_at (v 32) 64) ≡ v 32
flags_word_back v e h q = rw q (flags_back (v 32) (ltb-true (v 32) 128 h))

flags_of : (v : ℕ → ℕ) → LightFormed v → WordsHeld v → flags_word (block_light v) ≡ v 32
unfolding block_light
flags_of v f k =
    let d = distance_words_back v (k 28) (k 29) (f.floats 28 (omega arith)) (f.floats 29 (omega arith)) f.without in
    flags_are _ ∙ flags_word_back v _ f.flags d.2

light_words_back : (v : ℕ → ℕ) → WordsHeld v → LightFormed v → light_words (block_light v) ≡ picks v 0 36
unfolding light_words distance_words block_light vector_words block_vector
light_words_back v k f =
    let x : (j : ℕ) → j < 36 → word_of (float_of (v j)) ≡ v j = λ j h. word_back (v j) (k j) (f.floats j h) in
    let p = padded v f.padding in
    let d = distance_words_back v (k 28) (k 29) (f.floats 28 (omega arith)) (f.floats 29 (omega arith)) f.without in
    one (x 0 (omega arith)) (one (x 1 (omega arith)) (one (x 2 (omega arith)) (one p.0
    (one (x 4 (omega arith)) (one (x 5 (omega arith)) (one (x 6 (omega arith)) (one p.1
    (one (x 8 (omega arith)) (one (x 9 (omega arith)) (one (x 10 (omega arith)) (one p.2
    (one (x 12 (omega arith)) (one (x 13 (omega arith)) (one (x 14 (omega arith)) (one p.3
    (one (x 16 (omega arith)) (one (x 17 (omega arith)) (one (x 18 (omega arith)) (one p.4
    (one (x 20 (omega arith)) (one (x 21 (omega arith)) (one (x 22 (omega arith)) (one p.5
    (one (x 24 (omega arith)) (one (x 25 (omega arith)) (one (x 26 (omega arith)) (one p.6
    (one d.0 (one d.1 (one p.7 (one p.8
    (one (flags_of v f k) (one refl (one p.9 (one p.10 refl)))))))))))))))))))))))))))))))))))

-- the head

lookup_formed_lem : (w : ℕ → ℕ) → Formed w → (k : ℕ) → k < 7 → LookupFormed (from w (lookup_at k))
lookup_formed_lem w f k h = record {
  presence = f.shape.presence k h;
  absolute = f.shape.absolute k h;
  scale = f.shape.scale k h;
  missing = f.shape.missing k h;
}

lookup_back : (w : ℕ → ℕ) → Formed w → (k : ℕ) → k < 7 → LookupBack (from w (lookup_at k)) (block_optional_lookup (from w (lookup_at k)))
lookup_back w f k h = lookup_words_back (from w (lookup_at k)) (lookup_formed_lem w f k h)

-- a lookup's four words before equal lists
four : (v : ℕ → ℕ) {a b c d : ℕ} (xs ys : List ℕ) → LookupBack v (block_optional_lookup v) → a ≡ v 0 → b ≡ v 1 → c ≡ v 2 → d ≡ v 3 → xs ≡ ys
    → ((lookup_row (block_optional_lookup v)).0 ∷ (lookup_row (block_optional_lookup v)).1 ∷ (lookup_row (block_optional_lookup v)).2 ∷ (lookup_row (block_optional_lookup v)).3 ∷ xs) ≡ (a ∷ b ∷ c ∷ d ∷ ys)
four v xs ys k p q r s e = one (k.presence ∙ sym p) (one (k.input ∙ sym q) (one (k.absolute ∙ sym r) (one (k.scale ∙ sym s) e)))

head_words_back : (w : ℕ → ℕ) → WordsHeld w → Formed w → head_words (block_lighting w) ≡ picks w 0 40
unfolding head_words block_lighting lookup_words lookup_row vector_words block_vector block_lookup
head_words_back w k f =
    let x : (i : ℕ) → i < 328 → word_of (float_of (w i)) ≡ w i = λ i h. word_back (w i) (k i) (f.floats i h) in
    one refl (one refl (one (bump_word_back (w 2) f.shape.bump) (one (shadow_word_back (w 3) f.shape.shadow)
    (one (small_bit (w 4) f.shape.fresnel_primary) (one (small_bit (w 5) f.shape.fresnel_secondary) (one (small_bit (w 6) f.shape.clamp)
    (one (needs_word_back (w 7) f.shape.needs)
    (four (from w 8) _ _ (lookup_back w f 0 (omega arith)) refl refl refl refl
    (four (from w 12) _ _ (lookup_back w f 1 (omega arith)) refl refl refl refl
    (four (from w 16) _ _ (lookup_back w f 2 (omega arith)) refl refl refl refl
    (four (from w 20) _ _ (lookup_back w f 3 (omega arith)) refl refl refl refl
    (four (from w 24) _ _ (lookup_back w f 4 (omega arith)) refl refl refl refl
    (four (from w 28) _ _ (lookup_back w f 5 (omega arith)) refl refl refl refl
    (spot
    (one (x 36 (omega arith)) (one (x 37 (omega arith)) (one (x 38 (omega arith)) (one (sym (eqb-true (w 39) 0 f.shape.head_padding)) refl))))))))))))))))))
  where
    spot : {xs ys : List ℕ} → xs ≡ ys → ◌≡◌ {A = List ℕ} (1 ∷ w 33 ∷ bit_of (eqb (w 34) 1) ∷ word_of (float_of (w 35)) ∷ xs) (w 32 ∷ w 33 ∷ w 34 ∷ w 35 ∷ ys)
    spot e = one (sym (eqb-true (w 32) 1 f.shape.spotlight)) (one refl (one (small_bit (w 34) (f.shape.absolute 6 (omega arith))) (one (scale_back (w 35) (f.shape.scale 6 (omega arith))) e)))

-- the slots

light_formed_lem : (w : ℕ → ℕ) → Formed w → (s : ℕ) → s < w 1 → LightFormed (from w (slot_at (slot_of s)))
light_formed_lem w f s h =
    let c : w 1 ≤ 8 = leb-true (w 1) 8 f.shape.few in
    record {
      flags = f.shape.flags s h;
      without = f.shape.without s h;
      number = f.shape.number s h;
      padding = f.shape.padding s h;
      floats = λ j k. f.floats (slot_at (slot_of s) + j) (omega arith);
    }

light_of_slot : (w : ℕ → ℕ) (s : ℕ) → s < 8 → light_at (block_lighting w) (slot_of s) ≡ block_slot_light w (slot_of s)
unfolding light_at block_lighting block_lights
light_of_slot w zero h = refl
light_of_slot w (suc zero) h = refl
light_of_slot w (suc (suc zero)) h = refl
light_of_slot w (suc (suc (suc zero))) h = refl
light_of_slot w (suc (suc (suc (suc zero)))) h = refl
light_of_slot w (suc (suc (suc (suc (suc zero))))) h = refl
light_of_slot w (suc (suc (suc (suc (suc (suc zero)))))) h = refl
light_of_slot w (suc (suc (suc (suc (suc (suc (suc zero))))))) h = refl
light_of_slot w (suc (suc (suc (suc (suc (suc (suc (suc s)))))))) h = absurd (omega arith)

count_is : (w : ℕ → ℕ) → (block_lighting w).light_count ≡ w 1
unfolding block_lighting
count_is w = refl

-- the light of a lit slot
pub lit_light : (w : ℕ → ℕ) (s : ℕ) → s < 8 → ltb s (w 1) ≡ true → light_at (block_lighting w) (slot_of s) ≡ block_light (from w (slot_at (slot_of s)))
unfolding block_slot_light
lit_light w s h e = light_of_slot w s h ∙ rw e refl

slot_words_back : (w : ℕ → ℕ) → WordsHeld w → Formed w → (s : ℕ) → s < 8 → slot_words (block_lighting w) (slot_of s) ≡ picks w (slot_at (slot_of s)) 36
unfolding slot_words
slot_words_back w k f s h =
    ap (λ (n : ℕ). cond (ltb s n) (light_words (light_at (block_lighting w) (slot_of s))) (replicate 36 0)) (count_is w)
    ∙ go (ltb s (w 1)) refl
  where
    go : (b : Bool) → ltb s (w 1) ≡ b → cond b (light_words (light_at (block_lighting w) (slot_of s))) (replicate 36 0) ≡ picks w (slot_at (slot_of s)) 36
    go true e =
        ap light_words (lit_light w s h e)
        ∙ light_words_back (from w (slot_at (slot_of s))) (λ j. k (slot_at (slot_of s) + j)) (light_formed_lem w f s (ltb-true s (w 1) e))
        ∙ picks-from w (slot_at (slot_of s)) 0 36
        ∙ ap (λ (n : ℕ). picks w n 36) (omega arith)
    go false e =
        let c : w 1 ≤ s = ltb-false s (w 1) e in
        sym (zero_picks w (slot_at (slot_of s)) 36 (λ j m. unused_zero w f.shape (slot_at (slot_of s) + j) (omega arith) (omega arith)))

slots_words_back : (w : ℕ → ℕ) → WordsHeld w → Formed w → (n : ℕ) → n ≤ 8 → slots_words (block_lighting w) n ≡ picks w 40 (36 * n)
unfolding slots_words
slots_words_back w k f zero h = refl
slots_words_back w k f (suc n) h =
    let m : 36 * n + 36 ≡ 36 * suc n = omega arith in
    ap (λ (l : List ℕ). l ++ slot_words (block_lighting w) (slot_of n)) (slots_words_back w k f n (omega arith))
    ∙ ap (λ (l : List ℕ). picks w 40 (36 * n) ++ l) (slot_words_back w k f n (omega arith))
    ∙ picks_append w 40 (36 * n) 36
    ∙ ap (λ (j : ℕ). picks w 40 j) m

-- over any words
packed_back : (w : ℕ → ℕ) → WordsHeld w → well_formed w ≡ true → packed (block_lighting w) ≡ picks w 0 328
unfolding packed
packed_back w k h =
    let f = formed_parts w h in
    ap (λ (l : List ℕ). l ++ slots_words (block_lighting w) 8) (head_words_back w k f)
    ∙ ap (λ (l : List ℕ). picks w 0 40 ++ l) (slots_words_back w k f 8 (omega arith))
    ∙ picks_append w 0 40 288

reading_off : (w : ℕ → ℕ) → all_zero w ≡ true → packed_reading (block_reading w) ≡ replicate 328 0
unfolding block_reading packed_reading
reading_off w e = rw e refl

reading_on : (w : ℕ → ℕ) → all_zero w ≡ false → packed_reading (block_reading w) ≡ packed (block_lighting w)
unfolding block_reading packed_reading
reading_on w e = rw e refl

pub all_zero_words : (b : List ℕ) → length b ≡ 328 → all_zero (words b) ≡ true → replicate 328 0 ≡ b
unfolding all_zero
all_zero_words b e z = sym (zero_picks (words b) 0 328 (λ k h. sym (zero_at (words b) 0 328 k z h))) ∙ picked_all b 328 e

pub read_packs : ReadPacks
read_packs b e k h = go (all_zero (words b)) refl h
  where
    go : (x : Bool) → all_zero (words b) ≡ x → (x || well_formed (words b)) ≡ true → packed_reading (block_reading (words b)) ≡ b
    go true z g = reading_off (words b) z ∙ all_zero_words b e z
    go false z g = reading_on (words b) z ∙ packed_back (words b) k g ∙ picked_all b 328 e

-- `pack` accepts the reading

bump_of_lem : (w : ℕ → ℕ) → Formed w → leb (bump_unit (block_lighting w).bump) 3 ≡ true
unfolding block_lighting
bump_of_lem w f = le-leb _ 3 (bump_unit_small (w 2) f.shape.bump)

shadow_of_lem : (w : ℕ → ℕ) → Formed w → leb (shadow_unit (block_lighting w).shadow) 3 ≡ true
unfolding block_lighting
shadow_of_lem w f = le-leb _ 3 (shadow_unit_small (w 3) f.shape.shadow)

light_number_lem : (v : ℕ → ℕ) → ltb (v 33) 8 ≡ true → leb (block_light v).number.0 7 ≡ true
unfolding block_light
light_number_lem v h = let k : v 33 < 8 = ltb-true (v 33) 8 h in le-leb (v 33) 7 (omega arith)

numbers_of : (w : ℕ → ℕ) → Formed w → every (w 1) (λ s. leb (light_at (block_lighting w) (slot_of s)).number.0 7) ≡ true
numbers_of w f = every_of (w 1) (λ s. leb (light_at (block_lighting w) (slot_of s)).number.0 7) (λ s h. fits s h)
  where
    fits : (s : ℕ) → s < w 1 → leb (light_at (block_lighting w) (slot_of s)).number.0 7 ≡ true
    fits s h =
        let c : w 1 ≤ 8 = leb-true (w 1) 8 f.shape.few in
        ap (λ (l : Light). leb l.number.0 7) (lit_light w s (omega arith) (lt-ltb s (w 1) h)) ∙ light_number_lem (from w (slot_at (slot_of s))) (f.shape.number s h)

pub range_back : (w : ℕ → ℕ) → Formed w → in_range (block_lighting w) ≡ true
unfolding in_range numbers_fit
range_back w f =
    bump_of_lem w f
    also shadow_of_lem w f
    also (ap (λ (n : ℕ). leb 1 n) (count_is w) ∙ f.shape.some)
    also (ap (λ (n : ℕ). leb n 8) (count_is w) ∙ f.shape.few)
    also (ap (λ (n : ℕ). every n (λ s. leb (light_at (block_lighting w) (slot_of s)).number.0 7)) (count_is w) ∙ numbers_of w f)

pub read_accepted : ReadAccepted
unfolding accepted
read_accepted b e k h =
    range_back (words b) (formed_parts (words b) h)
    also (ap (λ (l : List ℕ). well_formed (words l)) (packed_back (words b) k h ∙ picked_all b 328 e) ∙ h)
