-- `Lighting::read`, statement by statement and under its names: from the registers, the lighting that they set up, or off; then
-- `registers_read`, and what reading a file answers. Definitions only.
-- That the code's own steps come to this: ReadLaws. The contracts of `decode`, `read` and `registers_read` cite it.
-- The registers and tables by name, registers[r] and the bits of a word are in Registers; the three kinds of number that registers hold are the
-- fields chapter's: short_float (pica_float; it ignores bits above the sign, which the Rust masks), colour_of (color) and fixed_of (fixed).
use Rattle.std.specs.Prelude.{ℕ, zero, suc, ◌+◌, ◌*◌, ◌/◌, ◌^◌, List, [], ◌∷◌, ◌++◌, map, Bool, not, ◌&&◌, ◌||◌, eqb, ltb, pos, length, get_or, take, drop, Float, Option, None, Some, Result, Ok, Err, if◌then◌else◌}
use Rattle.std.specs.List.{list_any}
use Rattle.std.specs.Float.{binary32}
use Rattle.std.specs.Float.Ieee.{of_int}
use Rattle.refusals.specs.Refusals.{number_of, file_refusal}
use Rattle.refusals.specs.declared.Refusal.{Refusal}
use Rattle.fields.specs.Fields.{colour_of, fixed_of, short_float}
use Rattle.vectors.specs.Vectors.{◌⊘◌, normalized_of}
use Rattle.lighting.specs.Lighting.{slot_of, blank_light, off, on, table_distribution0, table_distribution1, table_fresnel, table_reflect_blue, table_reflect_green, table_reflect_red, table_spotlight}
use Rattle.lighting.specs.declared.Bump.{Bump}
use Rattle.lighting.specs.declared.Bump.TheVariants.{Flat, Normal, Tangent}
use Rattle.lighting.specs.declared.Light.{Light}
use Rattle.lighting.specs.declared.LightNumber.{LightNumber}
use Rattle.lighting.specs.declared.Lighting.{Lighting}
use Rattle.lighting.specs.declared.Lookup.{Lookup}
use Rattle.lighting.specs.declared.Shadow.{Shadow}
use Rattle.lighting.specs.declared.Slot.{Slot}
use Rattle.decoding.specs.Registers.{reg_enable, reg_lights, reg_global_ambient, reg_light_count, reg_config0, reg_config1, reg_disable, reg_table_absolute, reg_table_input, reg_table_scale, reg_light_slots, register_of, bits_of, flag_of}

-- ---- Rust's forms

-- an optional lookup as the list of its lookups, none or one
unfoldable pub flatten : Option Lookup → List Lookup
flatten None = []
flatten (Some lookup) = lookup ∷ []

-- n as f32
abbrev pub as_float : ℕ → Float
as_float n = of_int binary32 (pos n)

-- the slots 0 to 7
abbrev pub slots : List Slot
slots = map slot_of (0 ∷ 1 ∷ 2 ∷ 3 ∷ 4 ∷ 5 ∷ 6 ∷ 7 ∷ [])

-- ---- The tables

-- supported: which tables a configuration has room for.
unfoldable pub supported : ℕ → ℕ → Bool
supported config table =
    if eqb table table_distribution0 then not (eqb config 1)
    else if eqb table table_distribution1 then not (eqb config 0 || eqb config 1 || eqb config 5)
    else if eqb table table_spotlight then not (eqb config 2 || eqb config 3)
    else if eqb table table_fresnel then not (eqb config 0 || eqb config 2 || eqb config 4)
    else if eqb table table_reflect_red then not (eqb config 3)
    else eqb config 4 || eqb config 5 || eqb config 8

-- "Scale codes 0 to 7 mean 1, 2, 4, 8, 0, 0, 0.25, 0.5."
abbrev pub scales : List Float
scales = as_float 1 ∷ as_float 2 ∷ as_float 4 ∷ as_float 8 ∷ as_float 0 ∷ as_float 0 ∷ as_float 1 ⊘ as_float 4 ∷ as_float 1 ⊘ as_float 2 ∷ []

unfoldable pub scale_of : ℕ → Float
scale_of code = get_or scales code (as_float 0)

-- ---- Bump and shadow, from 1C3

-- bump: bits 28 and 29 say which kind, 22 and 23 the texture unit; z is rebuilt where bit 30 is clear.
unfoldable pub bump : ℕ → Bump
bump config0 =
    let unit = bits_of config0 22 2 in
    if eqb (bits_of config0 28 2) 1 then Normal unit (not (flag_of config0 30))
    else if eqb (bits_of config0 28 2) 2 then Tangent unit
    else Flat

-- shadow: none where bit 0 is clear.
unfoldable pub shadow : ℕ → Option Shadow
shadow config0 =
    let unit = bits_of config0 24 2 in
    let invert = flag_of config0 18 in
    let primary = flag_of config0 16 in
    let secondary = flag_of config0 17 in
    let alpha = flag_of config0 19 in
    if flag_of config0 0 then Some (record { unit = unit; invert = invert; primary = primary; secondary = secondary; alpha = alpha }) else None

-- ---- Lighting::read

module _ (registers : List ℕ) where
  abbrev pub config0 : ℕ
  config0 = register_of registers reg_config0

  abbrev pub config1 : ℕ
  config1 = register_of registers reg_config1

  unfoldable pub config : ℕ
  config = bits_of config0 4 4

  -- lookup: each table's input, abs and scale sit four bits apart, abs being a disable bit one above.
  unfoldable pub lookup : ℕ → Lookup
  lookup field =
      record {
        input = bits_of (register_of registers reg_table_input) (field * 4) 3;
        absolute = not (flag_of (register_of registers reg_table_absolute) (field * 4 + 1));
        scale = scale_of (bits_of (register_of registers reg_table_scale) (field * 4) 3);
      }

  -- table: missing where its bit of 1C4 is set or the configuration has no room for it.
  unfoldable pub table : ℕ → ℕ → ℕ → Option Lookup
  table number disabled field = if not (flag_of config1 disabled) && supported config number then Some (lookup field) else None

  -- light_count: "(1C2 bits 0–2) + 1"
  unfoldable pub light_count : ℕ
  light_count = bits_of (register_of registers reg_light_count) 0 3 + 1

  -- number: "Slot s holds the light number in bits 4s–4s+2 of 1D9."
  unfoldable pub light_number : Slot → LightNumber
  light_number slot = record { 0 = bits_of (register_of registers reg_light_slots) (slot.0 * 4) 3 }

  -- The light in a slot: from its block, "140 + 10·n (both hexadecimal)" on, and its bits of 1C4, by its number n and never by its slot.
  unfoldable pub light : Slot → Light
  light slot =
      let number = light_number slot in
      let block : ℕ → ℕ = λ offset. register_of registers (reg_lights + number.0 * 0x10 + offset) in
      let half = short_float 10 5 in
      let float20 = short_float 12 7 in
      let position = half (block 4) ∷ half (block 4 / 2 ^ 16) ∷ half (block 5) ∷ [] in
      record {
        specular0 = colour_of (block 0);
        specular1 = colour_of (block 1);
        diffuse = colour_of (block 2);
        ambient = colour_of (block 3);
        position = position;
        direction = normalized_of position;
        spot = fixed_of (block 6) ∷ fixed_of (block 6 / 2 ^ 16) ∷ fixed_of (block 7) ∷ [];
        directional = flag_of (block 9) 0;
        two_sided = flag_of (block 9) 1;
        geometric0 = flag_of (block 9) 2;
        geometric1 = flag_of (block 9) 3;
        distance = if flag_of config1 (24 + number.0) then None else Some (record { bias = float20 (block 10); scale = float20 (block 11) });
        spotlight = not (flag_of config1 (8 + number.0)) && supported config table_spotlight;
        shadowed = not (flag_of config1 number.0);
        number = number;
      }

  -- The lighting that the registers set up, whether or not it is on.
  unfoldable pub lighting : Lighting
  lighting =
      let lights = map (λ slot. if ltb slot.0 light_count then light slot else blank_light) slots in
      let on = take light_count lights in
      let distribution0 = table table_distribution0 16 0 in
      let distribution1 = table table_distribution1 17 1 in
      let fresnel = table table_fresnel 19 3 in
      let red = table table_reflect_red 20 6 in
      let green = table table_reflect_green 21 5 in
      let blue = table table_reflect_blue 22 4 in
      let spotlight = lookup 2 in
      -- the lookups that get read, the spotlights' where a light on has one, and what their inputs take
      let spotlights = if list_any (λ light. light.spotlight) on then spotlight ∷ [] else [] in
      let tables = flatten distribution0 ++ flatten distribution1 ++ flatten fresnel ++ flatten red ++ flatten green ++ flatten blue ++ spotlights in
      let half_input = list_any (λ l. eqb l.input 0 || eqb l.input 1 || (eqb l.input 5 && eqb config 8)) tables in
      let view_input = list_any (λ l. eqb l.input 1 || eqb l.input 2) tables in
      let needs_half = list_any (λ light. light.geometric0 || light.geometric1) on || half_input in
      let needs_view = needs_half || view_input in
      record {
        lights = lights;
        light_count = light_count;
        global_ambient = colour_of (register_of registers reg_global_ambient);
        config = config;
        distribution0 = distribution0;
        distribution1 = distribution1;
        fresnel = fresnel;
        reflect_red = red;
        reflect_green = green;
        reflect_blue = blue;
        spotlight = spotlight;
        fresnel_primary = flag_of config0 2;
        fresnel_secondary = flag_of config0 3;
        clamp_highlights = flag_of config0 27;
        needs_half = needs_half;
        needs_view = needs_view;
        bump = bump config0;
        shadow = shadow config0;
      }

  -- "Off when 8F bit 0 is clear or 1C6 bit 0 is set."
  unfoldable pub read : Option Lighting
  read =
      if not (flag_of (register_of registers reg_enable) 0) || flag_of (register_of registers reg_disable) 0 then off
      else on lighting

-- ---- Lighting::registers_read

-- REGISTERS_READ: 1 + 133 + 1 + 3 + 1
abbrev pub registers_read_count : ℕ
registers_read_count = 139

-- The words that `read` takes, of all the lights whichever it decodes: 8F, 140 to 1C4, 1C6, 1D0 to 1D2, 1D9.
unfoldable pub registers_read : List ℕ → List ℕ
registers_read registers =
    register_of registers reg_enable
    ∷ (take 133 (drop reg_lights registers)
    ++ (register_of registers reg_disable ∷ (take 3 (drop reg_table_absolute registers) ++ (register_of registers reg_light_slots ∷ []))))

-- ---- Reading a file

-- A refusal's number, or 0, and the lighting.
pub record FileRead : Type 0 where
  pub number : ℕ
  pub lighting : Option Lighting

-- A refused file has no lighting, which is off.
unfoldable pub file_read_if : ℕ → List ℕ → FileRead
file_read_if zero registers = record { number = 0; lighting = read registers }
file_read_if (suc k) registers = record { number = suc k; lighting = off }

-- "Read and cached read: 1."
abbrev pub file_read : List ℕ → FileRead
file_read registers = file_read_if (file_refusal (length registers)) registers

-- what the function's answer says in these terms
abbrev pub file_read_of : Result (Option Lighting) Refusal → FileRead
file_read_of (Ok decoded) = record { number = 0; lighting = decoded }
file_read_of (Err refusal) = record { number = number_of refusal; lighting = off }
