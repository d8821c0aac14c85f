-- The lightings that `pack` accepts are the acceptable ones. Of an acceptable lighting's words each clause of a well-formed block holds by itself,
-- and from the words of an accepted one the same clauses give back what is acceptable. Assumes nothing.
use Rattle.std.specs.Cmp.{both_ways}
use Rattle.std.proofs.lemmas.Bool.{and_parts}
use Rattle.std.specs.Prelude.{ℕ, zero, suc, ◌+◌, ◌-◌, ◌*◌, ◌/◌, ◌%◌, ◌<◌, ◌≤◌, ◌≡◌, Bool, false, not, ◌&&◌, ◌||◌, T, get_or, Float, None, Option, Some}
use Rattle.std.proofs.Common.{arith, zero-add, sym, ap, subst, ◌∙◌}
use Rattle.std.proofs.Math.Path.{refl}
use Rattle.std.proofs.Math.Bool.{true}
use mathlib.Core.List.{List, [], ◌∷◌}
use Rattle.std.proofs.Math.Dec.{eqb, ltb}
use Rattle.std.proofs.lemmas.List.{get_or-replicate}
use Rattle.std.specs.Float.{nan, inf, fin, binary32}
use Rattle.std.specs.Float.Ieee.{is_nan, to_bits, fits}
use Rattle.std.specs.Float.Ieee.Bits.{of_bits-to_bits, nan_bits_is, nan_bits_above}
use borrow.Author.Tests.{eq-eqb, lt-ltb, le-ltb, le-leb, ltb-true, ltb-false}
use Rattle.binary32.specs.Binary32.{word_of}
use Rattle.vectors.specs.Vectors.{at}
use Rattle.vectors.specs.Claims.{Vector}
use Rattle.lighting.specs.declared.Lookup.{Lookup}
use Rattle.lighting.specs.declared.Distance.{Distance}
use Rattle.lighting.specs.declared.Bump.{Bump}
use Rattle.lighting.specs.declared.Bump.TheVariants.{Flat, Normal, Tangent}
use Rattle.lighting.specs.declared.Light.{Light}
use Rattle.lighting.specs.declared.Lighting.{Lighting}
use Rattle.lighting.specs.Forms.{every}
use Rattle.lighting.specs.Lighting.{is_scaled, light_at, bump_unit, shadow_unit, in_range, slot_of}
use Rattle.lighting.specs.Claims.{LightFits, DistanceFits, LightingFits}
use Rattle.block.specs.Block.{bit_of, flag_word, bump_word, shadow_word, lookup_row, lookup_words, vector_words, head_words, distance_row, flags_word, light_words, packed, words, from, lookup_at, slot_at, zeros, bit_at, bump_formed, shadow_formed, scale_formed, padding_zero, is_number, float_formed, well_formed, accepted, distance_words}
use Rattle.block.specs.Steps.{lookup_acceptable, optional_lookup_acceptable, acceptable}
use Rattle.block.specs.Claims.{AcceptedIs}
use Rattle.block.specs.TestLaws.{never, ◌also◌, or_first, or_second, chain_first, chain_part, every_one}
use Rattle.block.specs.FormedLaws.{Shaped, formed_parts, formed_made}
use Rattle.block.specs.FlagLaws.{flag_is, bit_small, bit_formed, flag_4, flags_small, needs_back, needs_small}
use Rattle.block.specs.ListLaws.{picks, picks_at, slot_lit, slot_unlit, count_of}
use Rattle.block.proofs.PackedLaws.{range_bump, range_shadow, range_some, range_count, range_number, flags_are}
use Rattle.block.specs.SmallLaws.{passes}
use Rattle.block.specs.WordLaws.{number_is, number_formed, small_formed}
use Rattle.lighting.specs.declared.Shadow.{Shadow}

-- a float's word

nan_formed : (x : Float) → is_nan x ≡ true → float_formed (word_of x) ≡ true
unfolding is_nan to_bits float_formed is_number
nan_formed nan e = refl
nan_formed (inf s) e = never e
nan_formed (fin s m k) e = never e

float_formed_lem : (x : Float) → T (fits binary32 x) → float_formed (word_of x) ≡ true
float_formed_lem x h = go (is_nan x) refl
  where
    go : (b : Bool) → is_nan x ≡ b → float_formed (word_of x) ≡ true
    go true e = nan_formed x e
    go false e =
        number_formed (word_of x)
        (number_is (word_of x) (ltb-false 0x7F80_0000 (word_of x % 0x8000_0000) (sym (nan_bits_above binary32 (word_of x)) ∙ nan_bits_is binary32 (word_of x) ∙ ap is_nan (of_bits-to_bits binary32 x h) ∙ e)))

-- the words of a light

module _ (l : Light) (h : LightFits l) (n : l.number.0 ≤ 7) where
  flags_formed : flags_word l < 128
  flags_formed = omega (arith, flags_are l, flags_small l.directional l.two_sided l.geometric0 l.geometric1 (is_scaled l.distance) l.spotlight l.shadowed)

  bias_formed : (d : Option Distance) → DistanceFits d → float_formed (distance_row d).0 ≡ true
  unfolding distance_row
  bias_formed None k = small_formed 0 (omega arith)
  bias_formed (Some d) k = float_formed_lem d.bias k.0

  scale_formed_lem : (d : Option Distance) → DistanceFits d → float_formed (distance_row d).1 ≡ true
  unfolding distance_row
  scale_formed_lem None k = small_formed 0 (omega arith)
  scale_formed_lem (Some d) k = float_formed_lem d.scale k.1

  light_floats : every 36 (λ j. float_formed (words (light_words l) j)) ≡ true
  unfolding every light_words distance_words vector_words
  light_floats =
      let z : float_formed 0 ≡ true = small_formed 0 (omega arith) in
      let v : (x : List Float) → Vector x → (float_formed (word_of (at x 0)) ≡ true) × (float_formed (word_of (at x 1)) ≡ true) × (float_formed (word_of (at x 2)) ≡ true) =
      λ x k. (float_formed_lem (at x 0) (k.fit 0), float_formed_lem (at x 1) (k.fit 1), float_formed_lem (at x 2) (k.fit 2)) in
      let v0 = v l.specular0 h.specular0 in
      let v1 = v l.specular1 h.specular1 in
      let v2 = v l.diffuse h.diffuse in
      let v3 = v l.ambient h.ambient in
      let v4 = v l.position h.position in
      let v5 = v l.direction h.direction in
      let v6 = v l.spot h.spot in
      v0.0 also v0.1 also v0.2 also z
      also v1.0 also v1.1 also v1.2 also z
      also v2.0 also v2.1 also v2.2 also z
      also v3.0 also v3.1 also v3.2 also z
      also v4.0 also v4.1 also v4.2 also z
      also v5.0 also v5.1 also v5.2 also z
      also v6.0 also v6.1 also v6.2 also z
      also bias_formed l.distance h.distance also scale_formed_lem l.distance h.distance also z also z
      also small_formed (flags_word l) (omega (arith, flags_formed)) also small_formed l.number.0 (omega arith) also z also z

  light_flags : ltb (words (light_words l) 32) 128 ≡ true
  unfolding light_words distance_words vector_words
  light_flags = lt-ltb (flags_word l) 128 flags_formed

  light_number_lem : ltb (words (light_words l) 33) 8 ≡ true
  unfolding light_words distance_words vector_words
  light_number_lem = lt-ltb l.number.0 8 (omega arith)

  light_padding : padding_zero (words (light_words l)) ≡ true
  unfolding padding_zero zeros every light_words distance_words vector_words
  light_padding = refl

  without_zero : (d : Option Distance) (f : Bool) → f ≡ is_scaled d → (f || (eqb (distance_row d).0 0 && eqb (distance_row d).1 0)) ≡ true
  unfolding is_scaled distance_row
  without_zero None f e = rw e refl
  without_zero (Some d) f e = rw e refl

  light_without : (bit_at (words (light_words l) 32) 16 || zeros (words (light_words l)) 28 2) ≡ true
  unfolding zeros every light_words distance_words vector_words
  light_without =
      without_zero l.distance (bit_at (flags_word l) 16)
      (ap (λ (k : ℕ). bit_at k 16) (flags_are l) ∙ flag_4 l.directional l.two_sided l.geometric0 l.geometric1 (is_scaled l.distance) l.spotlight l.shadowed)

-- a slot's tests go by the list of its words

padding_listed : (v : ℕ → ℕ) (ws : List ℕ) → picks v 0 36 ≡ ws → padding_zero v ≡ padding_zero (words ws)
unfolding padding_zero zeros every
padding_listed v ws e = ap (λ (l : List ℕ). padding_zero (words l)) e

without_listed : (v : ℕ → ℕ) (ws : List ℕ) → picks v 0 36 ≡ ws → (bit_at (v 32) 16 || zeros v 28 2) ≡ (bit_at (words ws 32) 16 || zeros (words ws) 28 2)
unfolding zeros every
without_listed v ws e = ap (λ (l : List ℕ). bit_at (words l 32) 16 || zeros (words l) 28 2) e

floats_listed : (v : ℕ → ℕ) (ws : List ℕ) → picks v 0 36 ≡ ws → every 36 (λ j. float_formed (v j)) ≡ every 36 (λ j. float_formed (words ws j))
unfolding every
floats_listed v ws e = ap (λ (l : List ℕ). every 36 (λ j. float_formed (words l j))) e

word_listed : (v : ℕ → ℕ) (ws : List ℕ) (p : ℕ → Bool) → picks v 0 36 ≡ ws → (p (v 32) ≡ p (words ws 32)) × (p (v 33) ≡ p (words ws 33))
word_listed v ws p e = (ap (λ (l : List ℕ). p (words l 32)) e, ap (λ (l : List ℕ). p (words l 33)) e)

-- an acceptable lighting's words

zero_bump : bump_formed 0 ≡ true
unfolding bump_formed
zero_bump = refl

normal_formed : (u r : ℕ) → u ≤ 3 → r ≤ 1 → bump_formed (1 + 16 * u + 256 * r) ≡ true
unfolding bump_formed
normal_formed u r h k =
    let n = 1 + 16 * u + 256 * r in
    or_first (eqb n 0 || (eqb (n % 16) 1 && ltb (n / 16 % 16) 4 && ltb n 512)) (eqb (n % 16) 2 && ltb n 64)
    (or_second (eqb n 0) (eqb (n % 16) 1 && ltb (n / 16 % 16) 4 && ltb n 512)
    (eq-eqb (n % 16) 1 (omega arith) also lt-ltb (n / 16 % 16) 4 (omega arith) also lt-ltb n 512 (omega arith)))

tangent_formed : (u : ℕ) → u ≤ 3 → bump_formed (2 + 16 * u) ≡ true
unfolding bump_formed
tangent_formed u h =
    let n = 2 + 16 * u in
    or_second (eqb n 0 || (eqb (n % 16) 1 && ltb (n / 16 % 16) 4 && ltb n 512)) (eqb (n % 16) 2 && ltb n 64)
    (eq-eqb (n % 16) 2 (omega arith) also lt-ltb n 64 (omega arith))

bump_formed_lem : (b : Bump) → bump_unit b ≤ 3 → bump_formed (bump_word b) ≡ true
unfolding bump_word bump_unit
bump_formed_lem Flat h = zero_bump
bump_formed_lem (Normal u r) h = ap (λ (f : ℕ). bump_formed (1 + 16 * u + f)) (flag_is r 256) ∙ normal_formed u (bit_of r) h (bit_small r)
bump_formed_lem (Tangent u) h = tangent_formed u h

zero_shadow : shadow_formed 0 ≡ true
unfolding shadow_formed
zero_shadow = refl

flagged_formed : (u a b c d : ℕ) → u ≤ 3 → a ≤ 1 → b ≤ 1 → c ≤ 1 → d ≤ 1 → shadow_formed (1 + 16 * u + 256 * a + 512 * b + 1024 * c + 2048 * d) ≡ true
unfolding shadow_formed
flagged_formed u a b c d h ha hb hc hd =
    let n = 1 + 16 * u + 256 * a + 512 * b + 1024 * c + 2048 * d in
    or_second (eqb n 0) (eqb (n % 16) 1 && ltb (n / 16 % 16) 4 && ltb n 4096)
    (eq-eqb (n % 16) 1 (omega arith) also lt-ltb (n / 16 % 16) 4 (omega arith) also lt-ltb n 4096 (omega arith))

shadow_formed_lem : (s : Option Shadow) → shadow_unit s ≤ 3 → shadow_formed (shadow_word s) ≡ true
unfolding shadow_word shadow_unit
shadow_formed_lem None h = zero_shadow
shadow_formed_lem (Some s) h =
    rw (flag_is s.invert 256, flag_is s.primary 512, flag_is s.secondary 1024, flag_is s.alpha 2048)
    (flagged_formed s.unit (bit_of s.invert) (bit_of s.primary) (bit_of s.secondary) (bit_of s.alpha) h (bit_small s.invert) (bit_small s.primary) (bit_small s.secondary) (bit_small s.alpha))

half_view : (a b : Bool) → (not a || b) ≡ true → (not (bit_at (flag_word a 1 + flag_word b 2) 1) || bit_at (flag_word a 1 + flag_word b 2) 2) ≡ true
half_view a b h = rw ((needs_back a b).0, (needs_back a b).1) h

-- what an acceptable lookup's words are
record LookupWords (o : Option Lookup) : Type 0 where
  presence : ltb (lookup_row o).0 2 ≡ true
  input : ltb (lookup_row o).1 8 ≡ true
  absolute : ltb (lookup_row o).2 2 ≡ true
  scale : scale_formed (lookup_row o).3 ≡ true
  missing : (eqb (lookup_row o).0 1 || (eqb (lookup_row o).1 0 && eqb (lookup_row o).2 0 && eqb (lookup_row o).3 0)) ≡ true

zero_scale : scale_formed 0 ≡ true
unfolding scale_formed
zero_scale = refl

lookup_words_lem : (o : Option Lookup) → optional_lookup_acceptable o ≡ true → LookupWords o
unfolding optional_lookup_acceptable lookup_acceptable lookup_row
lookup_words_lem None h = record { presence = refl; input = refl; absolute = refl; scale = zero_scale; missing = refl }
lookup_words_lem (Some l) h = record {
  presence = refl;
  input = (and_parts (ltb l.input 8) (scale_formed (word_of l.scale)) h).0;
  absolute = bit_formed l.absolute;
  scale = (and_parts (ltb l.input 8) (scale_formed (word_of l.scale)) h).1;
  missing = refl;
}

seven : (p : ℕ → Bool) → p 0 ≡ true → p 1 ≡ true → p 2 ≡ true → p 3 ≡ true → p 4 ≡ true → p 5 ≡ true → p 6 ≡ true → (k : ℕ) → k < 7 → p k ≡ true
seven p a b c d e f g zero h = a
seven p a b c d e f g (suc zero) h = b
seven p a b c d e f g (suc (suc zero)) h = c
seven p a b c d e f g (suc (suc (suc zero))) h = d
seven p a b c d e f g (suc (suc (suc (suc zero)))) h = e
seven p a b c d e f g (suc (suc (suc (suc (suc zero))))) h = f
seven p a b c d e f g (suc (suc (suc (suc (suc (suc zero)))))) h = g
seven p a b c d e f g (suc (suc (suc (suc (suc (suc (suc k))))))) h = absurd (omega arith)

record Acceptable (l : Lighting) : Type 0 where
  config : ltb l.config 16 ≡ true
  distribution0 : optional_lookup_acceptable l.distribution0 ≡ true
  distribution1 : optional_lookup_acceptable l.distribution1 ≡ true
  fresnel : optional_lookup_acceptable l.fresnel ≡ true
  red : optional_lookup_acceptable l.reflect_red ≡ true
  green : optional_lookup_acceptable l.reflect_green ≡ true
  blue : optional_lookup_acceptable l.reflect_blue ≡ true
  spotlight : lookup_acceptable l.spotlight ≡ true
  half_view : (not l.needs_half || l.needs_view) ≡ true
  range : in_range l ≡ true

acceptable_parts : (l : Lighting) → acceptable l ≡ true → Acceptable l
unfolding acceptable
acceptable_parts l h =
    let cs : List Bool =
    optional_lookup_acceptable l.distribution0
    ∷ optional_lookup_acceptable l.distribution1
    ∷ optional_lookup_acceptable l.fresnel
    ∷ optional_lookup_acceptable l.reflect_red
    ∷ optional_lookup_acceptable l.reflect_green
    ∷ optional_lookup_acceptable l.reflect_blue
    ∷ lookup_acceptable l.spotlight
    ∷ (not l.needs_half || l.needs_view)
    ∷ in_range l
    ∷ [] in
    let c : (i : ℕ) → get_or cs i true ≡ true = chain_part (ltb l.config 16) cs h in
    record {
      config = chain_first (ltb l.config 16) cs h;
      distribution0 = c 0;
      distribution1 = c 1;
      fresnel = c 2;
      red = c 3;
      green = c 4;
      blue = c 5;
      spotlight = c 6;
      half_view = c 7;
      range = c 8;
    }

present : (l : Lookup) → eqb (lookup_row (Some l)).0 1 ≡ true
unfolding lookup_row
present l = refl

present_acceptable : (l : Lookup) → lookup_acceptable l ≡ true → optional_lookup_acceptable (Some l) ≡ true
unfolding optional_lookup_acceptable
present_acceptable l h = h

module _ (l : Lighting) (h : LightingFits l) (f : Acceptable l) where
  lit_slot : (s : ℕ) → s < l.light_count → picks (from (words (packed l)) (slot_at (slot_of s))) 0 36 ≡ light_words (light_at l (slot_of s))
  lit_slot s k = let c : l.light_count ≤ 8 = range_count l f.range in slot_lit l s (omega arith) (lt-ltb s l.light_count k)

  held : (s : ℕ) → s < l.light_count → LightFits (light_at l (slot_of s))
  held s k = let c : l.light_count ≤ 8 = range_count l f.range in h.lights s (omega arith)

  few_number : (s : ℕ) → s < l.light_count → (light_at l (slot_of s)).number.0 ≤ 7
  few_number s k = range_number l f.range s k

  d0 : LookupWords l.distribution0
  d0 = lookup_words_lem l.distribution0 f.distribution0

  d1 : LookupWords l.distribution1
  d1 = lookup_words_lem l.distribution1 f.distribution1

  fr : LookupWords l.fresnel
  fr = lookup_words_lem l.fresnel f.fresnel

  re : LookupWords l.reflect_red
  re = lookup_words_lem l.reflect_red f.red

  gr : LookupWords l.reflect_green
  gr = lookup_words_lem l.reflect_green f.green

  bl : LookupWords l.reflect_blue
  bl = lookup_words_lem l.reflect_blue f.blue

  sp : LookupWords (Some l.spotlight)
  sp = lookup_words_lem (Some l.spotlight) (present_acceptable l.spotlight f.spotlight)

  -- a word past the lit slots
  unlit_zero : (i : ℕ) → slot_at (slot_of l.light_count) ≤ i → i < 328 → words (packed l) i ≡ 0
  unlit_zero i p q =
      let s = (i - 40) / 36 in
      let j = (i - 40) % 36 in
      let e : slot_at (slot_of s) + j ≡ i = omega arith in
      let m : s < 8 = omega arith in
      let u : l.light_count ≤ s = omega arith in
      ap (words (packed l)) (sym e)
      ∙ ap (λ (k : ℕ). words (packed l) (slot_at (slot_of s) + k)) (sym (zero-add j))
      ∙ sym (picks_at (from (words (packed l)) (slot_at (slot_of s))) 0 36 j (omega arith))
      ∙ ap (λ (ws : List ℕ). words ws j) (slot_unlit l s m (le-ltb s l.light_count u))
      ∙ get_or-replicate 36 j 0 0 (omega arith)

  shaped : Shaped (words (packed l))
  unfolding packed head_words lookup_words vector_words zeros every
  shaped = record {
    some = le-leb 1 l.light_count (range_some l f.range);
    few = le-leb l.light_count 8 (range_count l f.range);
    config = f.config;
    bump = bump_formed_lem l.bump (range_bump l f.range);
    shadow = shadow_formed_lem l.shadow (range_shadow l f.range);
    presence = seven (λ k. ltb (words (packed l) (lookup_at k + 0)) 2) d0.presence d1.presence fr.presence re.presence gr.presence bl.presence sp.presence;
    input = seven (λ k. ltb (words (packed l) (lookup_at k + 1)) 8) d0.input d1.input fr.input re.input gr.input bl.input sp.input;
    absolute = seven (λ k. ltb (words (packed l) (lookup_at k + 2)) 2) d0.absolute d1.absolute fr.absolute re.absolute gr.absolute bl.absolute sp.absolute;
    fresnel_primary = bit_formed l.fresnel_primary;
    fresnel_secondary = bit_formed l.fresnel_secondary;
    clamp = bit_formed l.clamp_highlights;
    needs = needs_small l.needs_half l.needs_view;
    flags = λ s k. (word_listed (from (words (packed l)) (slot_at (slot_of s))) (light_words (light_at l (slot_of s))) (λ n. ltb n 128) (lit_slot s k)).0 ∙ light_flags (light_at l (slot_of s)) (held s k) (few_number s k);
    half_view = half_view l.needs_half l.needs_view f.half_view;
    spotlight = present l.spotlight;
    scale = seven (λ k. scale_formed (words (packed l) (lookup_at k + 3))) d0.scale d1.scale fr.scale re.scale gr.scale bl.scale sp.scale;
    missing = seven (λ k. eqb (words (packed l) (lookup_at k + 0)) 1 || zeros (from (words (packed l)) (lookup_at k)) 1 3) d0.missing d1.missing fr.missing re.missing gr.missing bl.missing sp.missing;
    without = λ s k. without_listed (from (words (packed l)) (slot_at (slot_of s))) (light_words (light_at l (slot_of s))) (lit_slot s k) ∙ light_without (light_at l (slot_of s)) (held s k) (few_number s k);
    number = λ s k. (word_listed (from (words (packed l)) (slot_at (slot_of s))) (light_words (light_at l (slot_of s))) (λ n. ltb n 8) (lit_slot s k)).1 ∙ light_number_lem (light_at l (slot_of s)) (held s k) (few_number s k);
    head_padding = refl;
    padding = λ s k. padding_listed (from (words (packed l)) (slot_at (slot_of s))) (light_words (light_at l (slot_of s))) (lit_slot s k) ∙ light_padding (light_at l (slot_of s)) (held s k) (few_number s k);
    unused = λ k m. eq-eqb _ 0 (unlit_zero (slot_at (slot_of l.light_count) + k) (omega arith) (omega arith));
  }

  ambient_four : every 4 (λ j. float_formed (words (packed l) (36 + j))) ≡ true
  unfolding every packed head_words lookup_words vector_words
  ambient_four =
      let v = l.global_ambient in
      float_formed_lem (at v 0) (h.ambient.fit 0) also float_formed_lem (at v 1) (h.ambient.fit 1) also float_formed_lem (at v 2) (h.ambient.fit 2) also small_formed 0 (omega arith)

  ambient_formed : (i : ℕ) → 36 ≤ i → i < 40 → float_formed (words (packed l) i) ≡ true
  ambient_formed i p q =
      let e : 36 + (i - 36) ≡ i = omega arith in
      subst (λ (k : ℕ). float_formed (words (packed l) k) ≡ true) e (every_one 4 (λ j. float_formed (words (packed l) (36 + j))) (i - 36) ambient_four (omega arith))

  lit_formed : (i : ℕ) → 40 ≤ i → i < slot_at (slot_of l.light_count) → float_formed (words (packed l) i) ≡ true
  lit_formed i p q =
      let s = (i - 40) / 36 in
      let j = (i - 40) % 36 in
      let e : slot_at (slot_of s) + j ≡ i = omega arith in
      let k : s < l.light_count = omega arith in
      subst (λ (n : ℕ). float_formed (words (packed l) n) ≡ true) e
      (every_one 36 (λ m. float_formed (words (packed l) (slot_at (slot_of s) + m))) j
      (floats_listed (from (words (packed l)) (slot_at (slot_of s))) (light_words (light_at l (slot_of s))) (lit_slot s k) ∙ light_floats (light_at l (slot_of s)) (held s k) (few_number s k)) (omega arith))

  floats : (i : ℕ) → 36 ≤ i → i < slot_at (slot_of (words (packed l) 1)) → float_formed (words (packed l) i) ≡ true
  floats i p q = go (ltb i 40) refl
    where
      go : (b : Bool) → ltb i 40 ≡ b → float_formed (words (packed l) i) ≡ true
      go true e = ambient_formed i p (ltb-true i 40 e)
      go false e = lit_formed i (ltb-false i 40 e) (subst (λ (n : ℕ). i < slot_at (slot_of n)) (count_of l) q)

  acceptable_formed : well_formed (words (packed l)) ≡ true
  acceptable_formed = formed_made (words (packed l)) (record { shape = shaped; floats = passes (words (packed l)) shaped float_formed small_formed floats })

acceptable-accepted : (l : Lighting) → LightingFits l → acceptable l ≡ true → accepted l ≡ true
unfolding accepted
acceptable-accepted l h e = let f = acceptable_parts l e in f.range also acceptable_formed l h f

-- an accepted lighting is acceptable

optional_acceptable : (o : Option Lookup) → ltb (lookup_row o).1 8 ≡ true → scale_formed (lookup_row o).3 ≡ true → optional_lookup_acceptable o ≡ true
unfolding optional_lookup_acceptable lookup_acceptable lookup_row
optional_acceptable None p q = refl
optional_acceptable (Some l) p q = p also q

acceptable_present : (l : Lookup) → optional_lookup_acceptable (Some l) ≡ true → lookup_acceptable l ≡ true
unfolding optional_lookup_acceptable
acceptable_present l h = h

needs_acceptable : (a b : Bool) → (not (bit_at (flag_word a 1 + flag_word b 2) 1) || bit_at (flag_word a 1 + flag_word b 2) 2) ≡ true → (not a || b) ≡ true
needs_acceptable a b h = rw ((needs_back a b).0, (needs_back a b).1) at h

shaped_acceptable : (l : Lighting) → in_range l ≡ true → Shaped (words (packed l)) → acceptable l ≡ true
unfolding acceptable packed head_words lookup_words vector_words
shaped_acceptable l r f =
    f.config
    also optional_acceptable l.distribution0 (f.input 0 (omega arith)) (f.scale 0 (omega arith))
    also optional_acceptable l.distribution1 (f.input 1 (omega arith)) (f.scale 1 (omega arith))
    also optional_acceptable l.fresnel (f.input 2 (omega arith)) (f.scale 2 (omega arith))
    also optional_acceptable l.reflect_red (f.input 3 (omega arith)) (f.scale 3 (omega arith))
    also optional_acceptable l.reflect_green (f.input 4 (omega arith)) (f.scale 4 (omega arith))
    also optional_acceptable l.reflect_blue (f.input 5 (omega arith)) (f.scale 5 (omega arith))
    also acceptable_present l.spotlight (optional_acceptable (Some l.spotlight) (f.input 6 (omega arith)) (f.scale 6 (omega arith)))
    also needs_acceptable l.needs_half l.needs_view f.half_view
    also r

pub accepted_range : (l : Lighting) → accepted l ≡ true → in_range l ≡ true
unfolding accepted
accepted_range l h = (and_parts (in_range l) (well_formed (words (packed l))) h).0

accepted-acceptable : (l : Lighting) → accepted l ≡ true → acceptable l ≡ true
unfolding accepted
accepted-acceptable l h =
    shaped_acceptable l ((and_parts (in_range l) (well_formed (words (packed l))) h).0)
    (formed_parts (words (packed l)) ((and_parts (in_range l) (well_formed (words (packed l))) h).1)).shape

pub accepted_is : AcceptedIs
accepted_is l h = both_ways (accepted l) (acceptable l) (accepted-acceptable l) (acceptable-accepted l h)
