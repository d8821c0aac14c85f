-- The block of a lighting, to be laid beside `Lighting::pack` and document 01: where things stand in it, the words that are packed, which blocks are
-- well formed, what a block reads as, and what packing and the block reader answer. Definitions only.
use Rattle.std.specs.Prelude.{ℕ, zero, suc, ◌+◌, ◌*◌, ◌-◌, ◌/◌, ◌%◌, List, [], ◌∷◌, ◌++◌, map, Bool, ◌&&◌, ◌||◌, not, ltb, leb, eqb, get_or, replicate, length, Float, if◌then◌else◌, Result, Ok, Err, None, Option, Some}
use mir.Val.{bool_byte}
use Rattle.refusals.specs.declared.Refusal.{Refusal}
use Rattle.refusals.specs.Refusals.{number_of, block_refusal, ◌else◌}
use Rattle.binary32.specs.Binary32.{word_of, float_of}
use Rattle.vectors.specs.Vectors.{at}
use Rattle.lighting.specs.declared.Slot.{Slot}
use Rattle.lighting.specs.declared.Lookup.{Lookup}
use Rattle.lighting.specs.declared.Distance.{Distance}
use Rattle.lighting.specs.declared.Light.{Light}
use Rattle.lighting.specs.declared.Bump.{Bump}
use Rattle.lighting.specs.declared.Bump.TheVariants.{Flat, Normal, Tangent}
use Rattle.lighting.specs.declared.Lighting.{Lighting}
use Rattle.lighting.specs.Forms.{every}
use Rattle.lighting.specs.Lighting.{blank_light, off, on, slot_of, light_at, is_scaled, in_range}
use Rattle.lighting.specs.declared.Shadow.{Shadow}

-- ---- where things stand

-- the words of a list, by their places; a slice of words and a slice of bytes can have the same
abbrev pub words : List ℕ → ℕ → ℕ
words b i = get_or b i 0

-- the words from a place on
abbrev pub from : (ℕ → ℕ) → ℕ → ℕ → ℕ
from w i j = w (i + j)

-- where lookup k stands: distribution 0 and 1, fresnel, reflection of red, green and blue, spotlight
abbrev pub lookup_at : ℕ → ℕ
lookup_at k = 8 + 4 * k

-- where a slot stands: "328 words in `pack`'s order: 40, then 36 for each of eight slots"
abbrev pub slot_at : Slot → ℕ
slot_at slot = 40 + 36 * slot.0

-- ---- the words of a lighting, in the order of `pack`

-- flag as u32
abbrev pub bit_of : Bool → ℕ
bit_of flag = bool_byte flag

-- (flag as u32) << n, where the weight is 2^n
unfoldable pub flag_word : Bool → ℕ → ℕ
flag_word flag weight = if flag then weight else 0

unfoldable pub bump_word : Bump → ℕ
bump_word Flat = 0
bump_word (Normal unit rebuild) = 1 + 16 * unit + flag_word rebuild 256
bump_word (Tangent unit) = 2 + 16 * unit

unfoldable pub shadow_word : Option Shadow → ℕ
shadow_word None = 0
shadow_word (Some shadow) =
    1 + 16 * shadow.unit + flag_word shadow.invert 256 + flag_word shadow.primary 512 + flag_word shadow.secondary 1024 + flag_word shadow.alpha 2048

-- lookup.map_or([0; 4], |lookup| [1, lookup.input, lookup.absolute as u32, lookup.scale.to_bits()])
unfoldable pub lookup_row : Option Lookup → ℕ × ℕ × ℕ × ℕ
lookup_row None = (0, 0, 0, 0)
lookup_row (Some lookup) = (1, lookup.input, bit_of lookup.absolute, word_of lookup.scale)

unfoldable pub lookup_words : Option Lookup → List ℕ
lookup_words lookup = (lookup_row lookup).0 ∷ (lookup_row lookup).1 ∷ (lookup_row lookup).2 ∷ (lookup_row lookup).3 ∷ []

-- three floats and padding: [v[0].to_bits(), v[1].to_bits(), v[2].to_bits(), 0]
unfoldable pub vector_words : List Float → List ℕ
vector_words v = word_of (at v 0) ∷ word_of (at v 1) ∷ word_of (at v 2) ∷ 0 ∷ []

-- the 40 words before the slots
unfoldable pub head_words : Lighting → List ℕ
head_words self =
    (self.config ∷ self.light_count ∷ bump_word self.bump ∷ shadow_word self.shadow ∷ [])
    ++ (bit_of self.fresnel_primary
    ∷ bit_of self.fresnel_secondary
    ∷ bit_of self.clamp_highlights
    ∷ (flag_word self.needs_half 1 + flag_word self.needs_view 2)
    ∷ [])
    ++ lookup_words self.distribution0
    ++ lookup_words self.distribution1
    ++ lookup_words self.fresnel
    ++ lookup_words self.reflect_red
    ++ lookup_words self.reflect_green
    ++ lookup_words self.reflect_blue
    ++ lookup_words (Some self.spotlight)
    ++ vector_words self.global_ambient

-- the words of light.distance.unwrap_or((0.0, 0.0))
unfoldable pub distance_row : Option Distance → ℕ × ℕ
distance_row None = (0, 0)
distance_row (Some distance) = (word_of distance.bias, word_of distance.scale)

unfoldable pub distance_words : Option Distance → List ℕ
distance_words distance = (distance_row distance).0 ∷ (distance_row distance).1 ∷ 0 ∷ 0 ∷ []

unfoldable pub flags_word : Light → ℕ
flags_word light =
    flag_word light.directional 1
    + flag_word light.two_sided 2
    + flag_word light.geometric0 4
    + flag_word light.geometric1 8
    + flag_word (is_scaled light.distance) 16
    + flag_word light.spotlight 32
    + flag_word light.shadowed 64

unfoldable pub light_words : Light → List ℕ
light_words light =
    vector_words light.specular0
    ++ vector_words light.specular1
    ++ vector_words light.diffuse
    ++ vector_words light.ambient
    ++ vector_words light.position
    ++ vector_words light.direction
    ++ vector_words light.spot
    ++ distance_words light.distance
    ++ (flags_word light ∷ light.number.0 ∷ 0 ∷ 0 ∷ [])

-- "slots beyond the count are zero"
unfoldable pub slot_words : Lighting → Slot → List ℕ
slot_words self slot = if ltb slot.0 self.light_count then light_words (light_at self slot) else replicate 36 0

-- for slot in 0..n
unfoldable pub slots_words : Lighting → ℕ → List ℕ
slots_words self zero = []
slots_words self (suc n) = slots_words self n ++ slot_words self (slot_of n)

-- the 328 words
unfoldable pub packed : Lighting → List ℕ
packed self = head_words self ++ slots_words self 8

-- the block of a reading, which a hand-over packs: "off: all zero"
unfoldable pub packed_reading : Option Lighting → List ℕ
packed_reading None = replicate 328 0
packed_reading (Some lighting) = packed lighting

-- ---- well-formed blocks

-- the n words from i on are zero
unfoldable pub zeros : (ℕ → ℕ) → ℕ → ℕ → Bool
zeros w i n = every n (λ k. eqb (w (i + k)) 0)

-- all 328 are zero
unfoldable pub all_zero : (ℕ → ℕ) → Bool
all_zero w = zeros w 0 328

-- p of the four words of each of the seven lookups: presence, input, absolute, scale
unfoldable pub each_lookup : (ℕ → ℕ) → ((ℕ → ℕ) → Bool) → Bool
each_lookup w p = every 7 (λ k. p (from w (lookup_at k)))

-- p of the 36 words of each slot below the count
unfoldable pub each_lit : (ℕ → ℕ) → ((ℕ → ℕ) → Bool) → Bool
each_lit w p = every (w 1) (λ s. p (from w (slot_at (slot_of s))))

-- where the slots from the count on stand
abbrev pub unused_at : (ℕ → ℕ) → ℕ
unused_at w = slot_at (slot_of (w 1))

-- the bit of a word that has this weight, a power of 2
abbrev pub bit_at : ℕ → ℕ → Bool
bit_at n weight = eqb (n / weight % 2) 1

-- none; normals in unit 0 to 3, with z rebuilt or not; tangents in unit 0 to 3
unfoldable pub bump_formed : ℕ → Bool
bump_formed n =
    eqb n 0 || (eqb (n % 16) 1 && ltb (n / 16 % 16) 4 && ltb n 512) || (eqb (n % 16) 2 && ltb n 64)

-- none; one in unit 0 to 3, with four flags
unfoldable pub shadow_formed : ℕ → Bool
shadow_formed n = eqb n 0 || (eqb (n % 16) 1 && ltb (n / 16 % 16) 4 && ltb n 4096)

-- 0, 1, 2, 4, 8, 0.25, 0.5
unfoldable pub scale_formed : ℕ → Bool
scale_formed n =
    eqb n 0 || eqb n 0x3F80_0000 || eqb n 0x4000_0000 || eqb n 0x4080_0000 || eqb n 0x4100_0000 || eqb n 0x3E80_0000 || eqb n 0x3F00_0000

-- of a light's words: the fourth of each vector, two after the distance, two at the end
unfoldable pub padding_zero : (ℕ → ℕ) → Bool
padding_zero v =
    eqb (v 3) 0 && eqb (v 7) 0 && eqb (v 11) 0 && eqb (v 15) 0 && eqb (v 19) 0 && eqb (v 23) 0 && eqb (v 27) 0 && zeros v 30 2 && zeros v 34 2

-- no NaN's pattern: an exponent that is not all ones, or no digits
unfoldable pub is_number : ℕ → Bool
is_number n = leb (n % 0x8000_0000) 0x7F80_0000

unfoldable pub float_formed : ℕ → Bool
float_formed n = is_number n || eqb n 0x7FC0_0000

-- "A block reads as off if all zero. Else it is well formed if:"
unfoldable pub well_formed : (ℕ → ℕ) → Bool
well_formed w =
    -- "count is 1–8"
    leb 1 (w 1) && leb (w 1) 8
    -- "and configuration 0–15"
    && ltb (w 0) 16
    -- "bump, shadow, presence, table-input, absolute, fresnel, clamp, need and light-flag words hold only values `pack` can write for
    -- a lighting that `read` gives"
    && bump_formed (w 2)
    && shadow_formed (w 3)
    && each_lookup w (λ v. ltb (v 0) 2)
    && each_lookup w (λ v. ltb (v 1) 8)
    && each_lookup w (λ v. ltb (v 2) 2)
    && ltb (w 4) 2 && ltb (w 5) 2
    && ltb (w 6) 2
    && ltb (w 7) 4
    && each_lit w (λ v. ltb (v 32) 128)
    -- "the need for half implies that for view"
    && (not (bit_at (w 7) 1) || bit_at (w 7) 2)
    -- "spotlight lookup is present"
    && eqb (w (lookup_at 6)) 1
    -- "scales are among the codes' floats"
    && each_lookup w (λ v. scale_formed (v 3))
    -- "a missing lookup or distance has zero words"
    && each_lookup w (λ v. eqb (v 0) 1 || zeros v 1 3)
    && each_lit w (λ v. bit_at (v 32) 16 || zeros v 28 2)
    -- "light numbers are 0–7"
    && each_lit w (λ v. ltb (v 33) 8)
    -- "padding and unused slots are zero"
    && eqb (w 39) 0
    && each_lit w padding_zero
    && zeros w (unused_at w) (328 - unused_at w)
    -- "NaN appears only as 7FC00000": in any word, since the clauses above leave only small values to those that hold no float
    && every 328 (λ i. float_formed (w i))

-- ---- what a block reads as

unfoldable pub block_bump : ℕ → Bump
block_bump n =
    if eqb (n % 16) 1 then Normal (n / 16 % 16) (bit_at n 256)
    else if eqb (n % 16) 2 then Tangent (n / 16 % 16)
    else Flat

unfoldable pub block_shadow : ℕ → Option Shadow
block_shadow n =
    if eqb (n % 16) 1
    then Some (record { unit = n / 16 % 16; invert = bit_at n 256; primary = bit_at n 512; secondary = bit_at n 1024; alpha = bit_at n 2048 })
    else None

-- the lookup of four words
unfoldable pub block_lookup : (ℕ → ℕ) → Lookup
block_lookup v = record { input = v 1; absolute = eqb (v 2) 1; scale = float_of (v 3) }

unfoldable pub block_optional_lookup : (ℕ → ℕ) → Option Lookup
block_optional_lookup v = if eqb (v 0) 1 then Some (block_lookup v) else None

-- the vector of three words from i on
unfoldable pub block_vector : (ℕ → ℕ) → ℕ → List Float
block_vector v i = float_of (v i) ∷ float_of (v (i + 1)) ∷ float_of (v (i + 2)) ∷ []

-- of a light's words
unfoldable pub block_distance : (ℕ → ℕ) → Option Distance
block_distance v = if bit_at (v 32) 16 then Some (record { bias = float_of (v 28); scale = float_of (v 29) }) else None

-- the light of a slot's 36 words
unfoldable pub block_light : (ℕ → ℕ) → Light
block_light v =
    record {
      specular0 = block_vector v 0;
      specular1 = block_vector v 4;
      diffuse = block_vector v 8;
      ambient = block_vector v 12;
      position = block_vector v 16;
      direction = block_vector v 20;
      spot = block_vector v 24;
      directional = bit_at (v 32) 1;
      two_sided = bit_at (v 32) 2;
      geometric0 = bit_at (v 32) 4;
      geometric1 = bit_at (v 32) 8;
      distance = block_distance v;
      spotlight = bit_at (v 32) 32;
      shadowed = bit_at (v 32) 64;
      number = record { 0 = v 33 };
    }

unfoldable pub block_slot_light : (ℕ → ℕ) → Slot → Light
block_slot_light w slot = if ltb slot.0 (w 1) then block_light (from w (slot_at slot)) else blank_light

unfoldable pub block_lights : (ℕ → ℕ) → List Light
block_lights w = map (λ s. block_slot_light w (slot_of s)) (0 ∷ 1 ∷ 2 ∷ 3 ∷ 4 ∷ 5 ∷ 6 ∷ 7 ∷ [])

-- the lighting of a block's words, with these lights
abbrev pub block_lighting_with : (ℕ → ℕ) → List Light → Lighting
block_lighting_with w lights =
    record {
      lights = lights;
      light_count = w 1;
      global_ambient = block_vector w 36;
      config = w 0;
      distribution0 = block_optional_lookup (from w (lookup_at 0));
      distribution1 = block_optional_lookup (from w (lookup_at 1));
      fresnel = block_optional_lookup (from w (lookup_at 2));
      reflect_red = block_optional_lookup (from w (lookup_at 3));
      reflect_green = block_optional_lookup (from w (lookup_at 4));
      reflect_blue = block_optional_lookup (from w (lookup_at 5));
      spotlight = block_lookup (from w (lookup_at 6));
      fresnel_primary = eqb (w 4) 1;
      fresnel_secondary = eqb (w 5) 1;
      clamp_highlights = eqb (w 6) 1;
      needs_half = bit_at (w 7) 1;
      needs_view = bit_at (w 7) 2;
      bump = block_bump (w 2);
      shadow = block_shadow (w 3);
    }

unfoldable pub block_lighting : (ℕ → ℕ) → Lighting
block_lighting w = block_lighting_with w (block_lights w)

-- "A block reads as off if all zero."
unfoldable pub block_reading : (ℕ → ℕ) → Option Lighting
block_reading w = if all_zero w then off else on (block_lighting w)

-- ---- the answers of `pack`

-- not "with a unit above 3, a count outside 1–8 or a lit light's number above 7, or whose words would not be well formed"
unfoldable pub accepted : Lighting → Bool
accepted l = in_range l && well_formed (words (packed l))

unfoldable pub lighting_refusal : Lighting → ℕ
lighting_refusal l = if accepted l then 0 else 7

-- "Pack: 6 block not 328 words; 7 a lighting, made by the caller," that isn't accepted
unfoldable pub pack_refusal : Lighting → List ℕ → ℕ
pack_refusal l b = block_refusal (length b) else lighting_refusal l

-- a number, and the block as it stands afterwards
pub record Packing : Type 0 where
  pub number : ℕ
  pub block : List ℕ

abbrev pub packing : ℕ → List ℕ → Packing
packing k b = record { number = k; block = b }

unfoldable pub packs : Lighting → List ℕ → Packing
packs l b = packing (pack_refusal l b) (if eqb (pack_refusal l b) 0 then packed l else b)

-- ---- the answers of the block reader

unfoldable pub words_refusal : (ℕ → ℕ) → ℕ
words_refusal w = if all_zero w || well_formed w then 0 else 7

-- "Block read: 6; 7 not well formed."
unfoldable pub read_refusal : List ℕ → ℕ
read_refusal b = block_refusal (length b) else words_refusal (words b)

-- a number, and the reading beside it: off where the block is refused
pub record BlockAnswer : Type 0 where
  pub number : ℕ
  pub reading : Option Lighting

abbrev pub block_answer : ℕ → Option Lighting → BlockAnswer
block_answer k reading = record { number = k; reading = reading }

unfoldable pub block_read : List ℕ → BlockAnswer
block_read b = block_answer (read_refusal b) (if eqb (read_refusal b) 0 then block_reading (words b) else off)

-- the number and the reading of `read_block`'s own answer
abbrev pub answer_of : Result (Option Lighting) Refusal → BlockAnswer
answer_of (Ok reading) = block_answer 0 reading
answer_of (Err k) = block_answer (number_of k) off
