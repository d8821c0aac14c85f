-- Reading a packed lighting gives the lighting. Each value is got back from its own words: a float from its word, a flag from its bit,
-- a light from its slot's part. Assumes nothing.
use Rattle.std.specs.Prelude.{ℕ, ◌+◌, ◌*◌, ◌/◌, ◌%◌, ◌<◌, ◌≤◌, ◌≡◌, refl, Bool, true, false, cond, List, [], ◌∷◌, eqb, ltb, T, length, get_or, Float, None, Option, Some}
use Rattle.std.proofs.Common.{arith, zero-add, sym, ap, ◌∙◌}
use Rattle.std.proofs.Math.Dec.{leb}
use Rattle.std.specs.Float.{binary32}
use Rattle.std.specs.Float.Ieee.{fits}
use Rattle.std.specs.Float.Ieee.Bits.{of_bits-to_bits}
use borrow.Author.Tests.{eq-eqb, ne_eqb, eqb-true, leb-true, ltb-false}
use Rattle.binary32.specs.Binary32.{float_of, word_of}
use Rattle.vectors.specs.Vectors.{at}
use Rattle.vectors.specs.Claims.{Vector}
use Rattle.lighting.specs.declared.Lookup.{Lookup}
use Rattle.lighting.specs.declared.Distance.{Distance}
use Rattle.lighting.specs.declared.Bump.{Bump}
use Rattle.lighting.specs.declared.Bump.TheVariants.{Flat, Normal, Tangent}
use Rattle.lighting.specs.declared.Shadow.{Shadow}
use Rattle.lighting.specs.declared.Light.{Light}
use Rattle.lighting.specs.declared.Lighting.{Lighting}
use Rattle.lighting.specs.Forms.{every}
use Rattle.lighting.specs.Lighting.{blank_light, is_scaled, light_at, no_light, bump_unit, shadow_unit, numbers_fit, in_range, on, slot_of}
use Rattle.lighting.specs.Claims.{LightFits, DistanceFits, LookupFits, LightingFits}
use Rattle.block.specs.Block.{bit_of, flag_word, bump_word, shadow_word, lookup_row, lookup_words, vector_words, head_words, distance_row, flags_word, light_words, packed, words, from, slot_at, all_zero, zeros, bit_at, block_bump, block_shadow, block_lookup, block_optional_lookup, block_vector, block_distance, block_light, block_slot_light, block_lights, block_lighting, block_reading, distance_words}
use Rattle.block.specs.Claims.{BlankBeyond, PackedReads}
use Rattle.block.specs.TestLaws.{chain_first, chain_part, every_one}
use Rattle.block.specs.FlagLaws.{flag_is, bit_small, bit_back, back, flags7, flag_0, flag_1, flag_2, flag_3, flag_4, flag_5, flag_6, needs_back}
use Rattle.block.specs.ListLaws.{picks, slot_lit, count_of}

-- what is in range

module _ (l : Lighting) (h : in_range l ≡ true) where
  parts : (i : ℕ) → get_or (leb (shadow_unit l.shadow) 3 ∷ leb 1 l.light_count ∷ leb l.light_count 8 ∷ numbers_fit l ∷ []) i true ≡ true
  unfolding in_range
  parts = chain_part (leb (bump_unit l.bump) 3) (leb (shadow_unit l.shadow) 3 ∷ leb 1 l.light_count ∷ leb l.light_count 8 ∷ numbers_fit l ∷ []) h

  pub range_bump : bump_unit l.bump ≤ 3
  unfolding in_range
  range_bump = leb-true _ _ (chain_first (leb (bump_unit l.bump) 3) (leb (shadow_unit l.shadow) 3 ∷ leb 1 l.light_count ∷ leb l.light_count 8 ∷ numbers_fit l ∷ []) h)

  pub range_shadow : shadow_unit l.shadow ≤ 3
  range_shadow = leb-true _ _ (parts 0)

  pub range_some : 1 ≤ l.light_count
  range_some = leb-true _ _ (parts 1)

  pub range_count : l.light_count ≤ 8
  range_count = leb-true _ _ (parts 2)

  pub range_number : (s : ℕ) → s < l.light_count → (light_at l (slot_of s)).number.0 ≤ 7
  unfolding numbers_fit
  range_number s k = leb-true _ _ (every_one l.light_count (λ j. leb (light_at l (slot_of j)).number.0 7) s (parts 3) k)

-- floats and vectors

float_back : (x : Float) → T (fits binary32 x) → float_of (word_of x) ≡ x
float_back x h = of_bits-to_bits binary32 x h

three : (v : List Float) → length v ≡ 3 → (at v 0 ∷ at v 1 ∷ at v 2 ∷ []) ≡ v
three [] h = absurd (omega arith)
three (a ∷ []) h = absurd (omega arith)
three (a ∷ b ∷ []) h = absurd (omega arith)
three (a ∷ b ∷ c ∷ []) h = refl
three (a ∷ b ∷ c ∷ d ∷ v) h = absurd (omega arith)

vector_back : (v : List Float) → Vector v → (float_of (word_of (at v 0)) ∷ float_of (word_of (at v 1)) ∷ float_of (word_of (at v 2)) ∷ []) ≡ v
vector_back v h = rw (float_back (at v 0) (h.fit 0), float_back (at v 1) (h.fit 1), float_back (at v 2) (h.fit 2)) (three v h.long)

-- a light

distance_back : (d : Option Distance) (f : Bool) → DistanceFits d → f ≡ is_scaled d → cond f (Some (record { bias = float_of (distance_row d).0; scale = float_of (distance_row d).1 })) None ≡ d
unfolding is_scaled distance_row
distance_back None f h e = rw e refl
distance_back (Some d) f h e = rw (e, float_back d.bias h.0, float_back d.scale h.1) refl

pub flags_are : (l : Light) → flags_word l ≡ flags7 l.directional l.two_sided l.geometric0 l.geometric1 (is_scaled l.distance) l.spotlight l.shadowed
unfolding flags_word flags7
flags_are l = refl

module _ (l : Light) where
  light_made : (s0 s1 d a p t s : List Float) (b0 b1 b2 b3 : Bool) (f : Option Distance) (b5 b6 : Bool)
      → s0 ≡ l.specular0
      → s1 ≡ l.specular1
      → d ≡ l.diffuse
      → a ≡ l.ambient
      → p ≡ l.position
      → t ≡ l.direction
      → s ≡ l.spot
      → b0 ≡ l.directional
      → b1 ≡ l.two_sided
      → b2 ≡ l.geometric0
      → b3 ≡ l.geometric1
      → f ≡ l.distance
      → b5 ≡ l.spotlight
      → b6 ≡ l.shadowed
      → ◌≡◌ {A = Light} (record {
        specular0 = s0;
        specular1 = s1;
        diffuse = d;
        ambient = a;
        position = p;
        direction = t;
        spot = s;
        directional = b0;
        two_sided = b1;
        geometric0 = b2;
        geometric1 = b3;
        distance = f;
        spotlight = b5;
        shadowed = b6;
        number = l.number;
      }) l
  light_made s0 s1 d a p t s b0 b1 b2 b3 f b5 b6 e1 e2 e3 e4 e5 e6 e7 e8 e9 e10 e11 e12 e13 e14 =
      rw (e1, e2, e3, e4, e5, e6, e7, e8, e9, e10, e11, e12, e13, e14) refl

  light_back : LightFits l → block_light (words (light_words l)) ≡ l
  unfolding block_light light_words distance_words vector_words block_vector block_distance
  light_back h =
      let a = l.directional in
      let b = l.two_sided in
      let c = l.geometric0 in
      let d = l.geometric1 in
      let e = is_scaled l.distance in
      let f = l.spotlight in
      let g = l.shadowed in
      let w = flags_are l in
      light_made _ _ _ _ _ _ _ _ _ _ _ _ _ _
      (vector_back l.specular0 h.specular0)
      (vector_back l.specular1 h.specular1)
      (vector_back l.diffuse h.diffuse)
      (vector_back l.ambient h.ambient)
      (vector_back l.position h.position)
      (vector_back l.direction h.direction)
      (vector_back l.spot h.spot)
      (ap (λ (n : ℕ). bit_at n 1) w ∙ flag_0 a b c d e f g)
      (ap (λ (n : ℕ). bit_at n 2) w ∙ flag_1 a b c d e f g)
      (ap (λ (n : ℕ). bit_at n 4) w ∙ flag_2 a b c d e f g)
      (ap (λ (n : ℕ). bit_at n 8) w ∙ flag_3 a b c d e f g)
      (distance_back l.distance (bit_at (flags_word l) 16) h.distance (ap (λ (n : ℕ). bit_at n 16) w ∙ flag_4 a b c d e f g))
      (ap (λ (n : ℕ). bit_at n 32) w ∙ flag_5 a b c d e f g)
      (ap (λ (n : ℕ). bit_at n 64) w ∙ flag_6 a b c d e f g)

-- the light of 36 words is that of the list of them
light_listed : (v : ℕ → ℕ) (ws : List ℕ) → picks v 0 36 ≡ ws → block_light v ≡ block_light (words ws)
unfolding block_light block_vector block_distance
light_listed v ws e = ap (λ (l : List ℕ). block_light (words l)) e

slot_light_lem : (l : Lighting) (s : ℕ) → LightingFits l → BlankBeyond l → s < 8 → block_slot_light (words (packed l)) (slot_of s) ≡ light_at l (slot_of s)
unfolding block_slot_light
slot_light_lem l s h z k =
    ap (λ (n : ℕ). cond (ltb s n) (block_light (from (words (packed l)) (slot_at (slot_of s)))) blank_light) (count_of l)
    ∙ go (ltb s l.light_count) refl
  where
    go : (b : Bool) → ltb s l.light_count ≡ b → cond b (block_light (from (words (packed l)) (slot_at (slot_of s)))) blank_light ≡ light_at l (slot_of s)
    go true e = light_listed (from (words (packed l)) (slot_at (slot_of s))) (light_words (light_at l (slot_of s))) (slot_lit l s k e) ∙ light_back (light_at l (slot_of s)) (h.lights s k)
    go false e = sym (z s k (ltb-false s l.light_count e))

eight : (v : List Light) → length v ≡ 8
    → (get_or v 0 no_light ∷ get_or v 1 no_light ∷ get_or v 2 no_light ∷ get_or v 3 no_light ∷ get_or v 4 no_light ∷ get_or v 5 no_light ∷ get_or v 6 no_light ∷ get_or v 7 no_light ∷ []) ≡ v
eight [] h = absurd (omega arith)
eight (a ∷ []) h = absurd (omega arith)
eight (a ∷ b ∷ []) h = absurd (omega arith)
eight (a ∷ b ∷ c ∷ []) h = absurd (omega arith)
eight (a ∷ b ∷ c ∷ d ∷ []) h = absurd (omega arith)
eight (a ∷ b ∷ c ∷ d ∷ e ∷ []) h = absurd (omega arith)
eight (a ∷ b ∷ c ∷ d ∷ e ∷ f ∷ []) h = absurd (omega arith)
eight (a ∷ b ∷ c ∷ d ∷ e ∷ f ∷ g ∷ []) h = absurd (omega arith)
eight (a ∷ b ∷ c ∷ d ∷ e ∷ f ∷ g ∷ i ∷ []) h = refl
eight (a ∷ b ∷ c ∷ d ∷ e ∷ f ∷ g ∷ i ∷ j ∷ v) h = absurd (omega arith)

lights_back : (l : Lighting) → length l.lights ≡ 8 → LightingFits l → BlankBeyond l → block_lights (words (packed l)) ≡ l.lights
unfolding block_lights light_at
lights_back l n h z =
    rw (slot_light_lem l 0 h z (omega arith), slot_light_lem l 1 h z (omega arith), slot_light_lem l 2 h z (omega arith), slot_light_lem l 3 h z (omega arith), slot_light_lem l 4 h z (omega arith), slot_light_lem l 5 h z (omega arith), slot_light_lem l 6 h z (omega arith), slot_light_lem l 7 h z (omega arith))
    (eight l.lights n)

-- the head

normal_is : (n u : ℕ) (r : Bool) → n % 16 ≡ 1 → n / 16 % 16 ≡ u → bit_at n 256 ≡ r → block_bump n ≡ Normal u r
unfolding block_bump
normal_is n u r p q s = simp (eq-eqb (n % 16) 1 p, q, s)

tangent_is : (n u : ℕ) → n % 16 ≡ 2 → n / 16 % 16 ≡ u → block_bump n ≡ Tangent u
unfolding block_bump
tangent_is n u p q = let d : n % 16 ≡ 1 → ⊥ = λ h. omega arith in simp (ne_eqb (n % 16) 1 d, eq-eqb (n % 16) 2 p, q)

bump_back : (b : Bump) → bump_unit b ≤ 3 → block_bump (bump_word b) ≡ b
unfolding bump_word bump_unit block_bump
bump_back Flat h = refl
bump_back (Normal u r) h =
    let n = 1 + 16 * u + flag_word r 256 in
    normal_is n u r (omega (arith, flag_is r 256)) (omega (arith, flag_is r 256, bit_small r)) (back (n / 256 % 2) r (omega (arith, flag_is r 256, bit_small r)))
bump_back (Tangent u) h = tangent_is (2 + 16 * u) u (omega arith) (omega arith)

shadow_is : (n : ℕ) (s : Shadow) → n % 16 ≡ 1 → n / 16 % 16 ≡ s.unit → bit_at n 256 ≡ s.invert → bit_at n 512 ≡ s.primary → bit_at n 1024 ≡ s.secondary → bit_at n 2048 ≡ s.alpha → block_shadow n ≡ Some s
unfolding block_shadow
shadow_is n s p q a b c d = rw (eq-eqb (n % 16) 1 p, q, a, b, c, d) refl

shadow_back : (s : Option Shadow) → shadow_unit s ≤ 3 → block_shadow (shadow_word s) ≡ s
unfolding shadow_word shadow_unit block_shadow
shadow_back None h = refl
shadow_back (Some s) h =
    let n = 1 + 16 * s.unit + flag_word s.invert 256 + flag_word s.primary 512 + flag_word s.secondary 1024 + flag_word s.alpha 2048 in
    let a : n ≡ 1 + 16 * s.unit + 256 * bit_of s.invert + 512 * bit_of s.primary + 1024 * bit_of s.secondary + 2048 * bit_of s.alpha = omega (arith, flag_is s.invert 256, flag_is s.primary 512, flag_is s.secondary 1024, flag_is s.alpha 2048) in
    shadow_is n s
    (omega arith)
    (omega (arith, bit_small s.invert, bit_small s.primary))
    (back (n / 256 % 2) s.invert (omega (arith, bit_small s.invert)))
    (back (n / 512 % 2) s.primary (omega (arith, bit_small s.invert, bit_small s.primary)))
    (back (n / 1024 % 2) s.secondary (omega (arith, bit_small s.invert, bit_small s.primary, bit_small s.secondary)))
    (back (n / 2048 % 2) s.alpha (omega (arith, bit_small s.invert, bit_small s.primary, bit_small s.secondary, bit_small s.alpha)))

lookup_back : (l : Lookup) → T (fits binary32 l.scale) → ◌≡◌ {A = Lookup} (record { input = l.input; absolute = eqb (bit_of l.absolute) 1; scale = float_of (word_of l.scale) }) l
lookup_back l h = rw (bit_back l.absolute, float_back l.scale h) refl

optional_back : (o : Option Lookup) → LookupFits o → cond (eqb (lookup_row o).0 1) (Some (record { input = (lookup_row o).1; absolute = eqb (lookup_row o).2 1; scale = float_of (lookup_row o).3 })) None ≡ o
unfolding lookup_row
optional_back None h = refl
optional_back (Some l) h = ap Some (lookup_back l h)

module _ (l : Lighting) where
  lighting_made : (ls : List Light) (a : List Float) (d0 d1 f r g u : Option Lookup) (s : Lookup) (b1 b2 b3 b4 b5 : Bool) (m : Bump) (h : Option Shadow)
      → ls ≡ l.lights
      → a ≡ l.global_ambient
      → d0 ≡ l.distribution0
      → d1 ≡ l.distribution1
      → f ≡ l.fresnel
      → r ≡ l.reflect_red
      → g ≡ l.reflect_green
      → u ≡ l.reflect_blue
      → s ≡ l.spotlight
      → b1 ≡ l.fresnel_primary
      → b2 ≡ l.fresnel_secondary
      → b3 ≡ l.clamp_highlights
      → b4 ≡ l.needs_half
      → b5 ≡ l.needs_view
      → m ≡ l.bump
      → h ≡ l.shadow
      → ◌≡◌ {A = Lighting} (record {
        lights = ls;
        light_count = l.light_count;
        global_ambient = a;
        config = l.config;
        distribution0 = d0;
        distribution1 = d1;
        fresnel = f;
        reflect_red = r;
        reflect_green = g;
        reflect_blue = u;
        spotlight = s;
        fresnel_primary = b1;
        fresnel_secondary = b2;
        clamp_highlights = b3;
        needs_half = b4;
        needs_view = b5;
        bump = m;
        shadow = h;
      }) l
  lighting_made ls a d0 d1 f r g u s b1 b2 b3 b4 b5 m h e1 e2 e3 e4 e5 e6 e7 e8 e9 e10 e11 e12 e13 e14 e15 e16 =
      rw (e1, e2, e3, e4, e5, e6, e7, e8, e9, e10, e11, e12, e13, e14, e15, e16) refl

  lighting_back : length l.lights ≡ 8 → LightingFits l → in_range l ≡ true → BlankBeyond l → block_lighting (words (packed l)) ≡ l
  unfolding block_lighting packed head_words lookup_words vector_words block_vector block_optional_lookup block_lookup lookup_row
  lighting_back n h i z =
      lighting_made _ _ _ _ _ _ _ _ _ _ _ _ _ _ _ _
      (lights_back l n h z)
      (vector_back l.global_ambient h.ambient)
      (optional_back l.distribution0 h.distribution0)
      (optional_back l.distribution1 h.distribution1)
      (optional_back l.fresnel h.fresnel)
      (optional_back l.reflect_red h.red)
      (optional_back l.reflect_green h.green)
      (optional_back l.reflect_blue h.blue)
      (lookup_back l.spotlight h.spotlight)
      (bit_back l.fresnel_primary)
      (bit_back l.fresnel_secondary)
      (bit_back l.clamp_highlights)
      (needs_back l.needs_half l.needs_view).0
      (needs_back l.needs_half l.needs_view).1
      (bump_back l.bump (range_bump l i))
      (shadow_back l.shadow (range_shadow l i))

-- a word that isn't zero
pub not_all_zero : (w : ℕ → ℕ) (i : ℕ) → i < 328 → (w i ≡ 0 → ⊥) → all_zero w ≡ false
unfolding all_zero zeros
not_all_zero w i h n = go (every 328 (λ k. eqb (w (0 + k)) 0)) refl
  where
    go : (b : Bool) → every 328 (λ k. eqb (w (0 + k)) 0) ≡ b → b ≡ false
    go true e = absurd (n (eqb-true (w i) 0 (ap (λ (k : ℕ). eqb (w k) 0) (sym (zero-add i)) ∙ every_one 328 (λ k. eqb (w (0 + k)) 0) i e h)))
    go false e = refl

pub packed_reads : PackedReads
unfolding block_reading
packed_reads l n h i z =
    let lit : words (packed l) 1 ≡ 0 → ⊥ = λ e. omega (arith, count_of l, range_some l i) in
    rw (not_all_zero (words (packed l)) 1 (omega arith) lit) (ap on (lighting_back l n h i z))
