-- What the code computes step by step; nobody has to trust it: ReadLaws ties it to the law, Read. Definitions only.
use Rattle.std.specs.Prelude.{ℕ, zero, suc, ◌+◌, ◌*◌, ◌/◌, ◌^◌, Bool, false, not, cond, ◌&&◌, ◌||◌, List, [], ◌∷◌, ◌++◌, eqb, ltb, get_or, set, replicate, take, Float, Option, None, Some}
use Rattle.std.specs.List.{list_any}
use mir.Val.{bool_byte}
use Rattle.fields.specs.Fields.{colour_field, colour_of, fixed_of, short_float}
use Rattle.vectors.specs.Vectors.{normalized_of}
use Rattle.lighting.specs.Lighting.{blank_light, off, on, table_distribution0, table_distribution1, table_fresnel, table_reflect_blue, table_reflect_green, table_reflect_red, table_spotlight, zero_float}
use Rattle.lighting.specs.declared.Distance.{Distance}
use Rattle.lighting.specs.declared.Light.{Light}
use Rattle.lighting.specs.declared.LightNumber.{LightNumber}
use Rattle.lighting.specs.declared.Lighting.{Lighting}
use Rattle.lighting.specs.declared.Lookup.{Lookup}
use Rattle.lighting.specs.declared.Slot.{Slot}
use Rattle.lighting.specs.declared.TableLookups.{TableLookups}
use Rattle.decoding.specs.Registers.{reg_enable, reg_lights, reg_global_ambient, reg_config0, reg_config1, reg_disable, register_of, flag_of}
use Rattle.decoding.specs.Read.{supported, bump, shadow, config, lookup, table, light_count, light_number}

-- ---- A light

-- the word at an offset in a light's block
unfoldable pub light_register : List ℕ → LightNumber → ℕ → ℕ
light_register f n offset = register_of f (reg_lights + n.0 * 0x10 + offset)

-- the colours of four words, their channels one after another
unfoldable pub four_colours : ℕ → ℕ → ℕ → ℕ → List Float
four_colours a b c d = colour_of a ++ colour_of b ++ colour_of c ++ colour_of d

-- the channels once the colours of k of the words are put in
unfoldable pub colours_to : List ℕ → ℕ → List Float
colours_to ws zero = replicate 12 zero_float
colours_to ws (suc k) =
    set (set (set (colours_to ws k) (3 * k) (colour_field (get_or ws k 0) 20)) (3 * k + 1) (colour_field (get_or ws k 0) 10)) (3 * k + 2) (colour_field (get_or ws k 0) 0)

-- the colour at an offset in a light's block
unfoldable pub light_colour : List ℕ → LightNumber → ℕ → List Float
light_colour f n offset = colour_of (light_register f n offset)

-- three halves: the low and the high one of offset 4, and the low one of 5
unfoldable pub position_of : List ℕ → LightNumber → List Float
position_of f n =
    short_float 10 5 (light_register f n 4)
    ∷ short_float 10 5 (light_register f n 4 / 2 ^ 16)
    ∷ short_float 10 5 (light_register f n 5)
    ∷ []

-- three 13-bit fields: 6 from bit 0, 6 from bit 16, 7 from bit 0
unfoldable pub spot_of : List ℕ → LightNumber → List Float
spot_of f n =
    fixed_of (light_register f n 6)
    ∷ fixed_of (light_register f n 6 / 2 ^ 16)
    ∷ fixed_of (light_register f n 7)
    ∷ []

-- by the light's number, and not by its slot
unfoldable pub distance_of : List ℕ → LightNumber → Option Distance
distance_of f n =
    cond (flag_of (register_of f reg_config1) (24 + n.0))
    None
    (Some (record { bias = short_float 12 7 (light_register f n 0xA); scale = short_float 12 7 (light_register f n 0xB) }))

unfoldable pub spotlit_of : List ℕ → LightNumber → Bool
spotlit_of f n = not (flag_of (register_of f reg_config1) (8 + n.0)) && supported (config f) table_spotlight

-- light n; its flags are bits 0 to 3 of offset 9
unfoldable pub light_of : List ℕ → LightNumber → Light
light_of f n =
    record {
      specular0 = light_colour f n 0;
      specular1 = light_colour f n 1;
      diffuse = light_colour f n 2;
      ambient = light_colour f n 3;
      position = position_of f n;
      direction = normalized_of (position_of f n);
      spot = spot_of f n;
      directional = flag_of (light_register f n 9) 0;
      two_sided = flag_of (light_register f n 9) 1;
      geometric0 = flag_of (light_register f n 9) 2;
      geometric1 = flag_of (light_register f n 9) 3;
      distance = distance_of f n;
      spotlight = spotlit_of f n;
      shadowed = not (flag_of (register_of f reg_config1) n.0);
      number = n;
    }

-- the light in a slot: blank beyond the count
unfoldable pub slot_light : List ℕ → Slot → Light
slot_light f slot = cond (ltb slot.0 (light_count f)) (light_of f (light_number f slot)) blank_light

unfoldable pub lights_of : List ℕ → List Light
lights_of f =
    slot_light f (record { 0 = 0 })
    ∷ slot_light f (record { 0 = 1 })
    ∷ slot_light f (record { 0 = 2 })
    ∷ slot_light f (record { 0 = 3 })
    ∷ slot_light f (record { 0 = 4 })
    ∷ slot_light f (record { 0 = 5 })
    ∷ slot_light f (record { 0 = 6 })
    ∷ slot_light f (record { 0 = 7 })
    ∷ []

-- ---- The lookups of a draw

unfoldable pub lookups_of : List ℕ → TableLookups
lookups_of f =
    record {
      distribution0 = table f table_distribution0 16 0;
      distribution1 = table f table_distribution1 17 1;
      fresnel = table f table_fresnel 19 3;
      reflect_red = table f table_reflect_red 20 6;
      reflect_green = table f table_reflect_green 21 5;
      reflect_blue = table f table_reflect_blue 22 4;
      spotlight = lookup f 2;
    }

-- ---- What the lights on and the lookups need

abbrev pub has_spotlight : Light → Bool
has_spotlight l = l.spotlight

abbrev pub is_geometric : Light → Bool
is_geometric l = l.geometric0 || l.geometric1

-- the lights on: the first of the eight, as many as the count
unfoldable pub lit_lights : List ℕ → List Light
lit_lights f = take (light_count f) (lights_of f)

-- the inputs that read the half vector: 0, 1 and, in configuration 8, 5
unfoldable pub input_half : ℕ → ℕ → Bool
input_half config input = eqb input 0 || eqb input 1 || (eqb input 5 && eqb config 8)

-- the inputs that read the unit vector toward the viewer: 1 and 2
unfoldable pub input_view : ℕ → Bool
input_view input = eqb input 1 || eqb input 2

unfoldable pub lookup_half : ℕ → Option Lookup → Bool
lookup_half config None = false
lookup_half config (Some l) = input_half config l.input

unfoldable pub lookup_view : Option Lookup → Bool
lookup_view None = false
lookup_view (Some l) = input_view l.input

-- some lookup that is read takes the half vector; the spotlights' lookup is read where a light on has one
unfoldable pub half_input : ℕ → Bool → TableLookups → Bool
half_input config spotlit l =
    lookup_half config l.distribution0
    || lookup_half config l.distribution1
    || lookup_half config l.fresnel
    || lookup_half config l.reflect_red
    || lookup_half config l.reflect_green
    || lookup_half config l.reflect_blue
    || (spotlit && input_half config l.spotlight.input)

unfoldable pub view_input : Bool → TableLookups → Bool
view_input spotlit l =
    lookup_view l.distribution0
    || lookup_view l.distribution1
    || lookup_view l.fresnel
    || lookup_view l.reflect_red
    || lookup_view l.reflect_green
    || lookup_view l.reflect_blue
    || (spotlit && input_view l.spotlight.input)

unfoldable pub needs_half : List ℕ → Bool
needs_half f =
    list_any is_geometric (lit_lights f)
    || half_input (config f) (list_any has_spotlight (lit_lights f)) (lookups_of f)

unfoldable pub needs_view : List ℕ → Bool
needs_view f = needs_half f || view_input (list_any has_spotlight (lit_lights f)) (lookups_of f)

-- ---- The lighting

unfoldable pub lighting_of : List ℕ → Lighting
lighting_of f =
    record {
      lights = lights_of f;
      light_count = light_count f;
      global_ambient = colour_of (register_of f reg_global_ambient);
      config = config f;
      distribution0 = (lookups_of f).distribution0;
      distribution1 = (lookups_of f).distribution1;
      fresnel = (lookups_of f).fresnel;
      reflect_red = (lookups_of f).reflect_red;
      reflect_green = (lookups_of f).reflect_green;
      reflect_blue = (lookups_of f).reflect_blue;
      spotlight = (lookups_of f).spotlight;
      fresnel_primary = flag_of (register_of f reg_config0) 2;
      fresnel_secondary = flag_of (register_of f reg_config0) 3;
      clamp_highlights = flag_of (register_of f reg_config0) 27;
      needs_half = needs_half f;
      needs_view = needs_view f;
      bump = bump (register_of f reg_config0);
      shadow = shadow (register_of f reg_config0);
    }

unfoldable pub lighting_on : List ℕ → Bool
lighting_on f = flag_of (register_of f reg_enable) 0 && not (flag_of (register_of f reg_disable) 0)

unfoldable pub read_steps : List ℕ → Option Lighting
read_steps f = cond (lighting_on f) (on (lighting_of f)) off

-- ---- Comparing words

-- how many of n words differ, from one place on in a and from another on in b
unfoldable pub differences : List ℕ → ℕ → List ℕ → ℕ → ℕ → ℕ
differences a from b at zero = 0
differences a from b at (suc n) =
    differences a from b at n + bool_byte (not (eqb (get_or a (from + n) 0) (get_or b (at + n) 0)))
