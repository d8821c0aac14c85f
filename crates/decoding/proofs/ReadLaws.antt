-- What the code computes step by step is the law's `read`: a light in its slot and the needs for half and view are worked out in other words,
-- and all else is the same word for word. By unfolding, and by cases on the lookups. Assumes nothing.
use Rattle.std.specs.Prelude.{ℕ, ◌≡◌, List, [], ◌∷◌, ◌++◌, map, Bool, true, false, not, cond, ◌&&◌, ◌||◌, ltb, Option, None, Some}
use Rattle.std.proofs.Math.Path.{refl}
use Rattle.std.proofs.Common.{◌∙◌}
use Rattle.std.proofs.Math.Bool.{or-false}
use Rattle.std.proofs.Math.ListN.{take}
use Rattle.std.specs.List.{list_any}
use Rattle.std.proofs.lemmas.List.Folds.{list_any-append}
use Rattle.fields.specs.Fields.{colour_of}
use Rattle.lighting.specs.Lighting.{blank_light, off, on}
use Rattle.lighting.specs.declared.Light.{Light}
use Rattle.lighting.specs.declared.Lighting.{Lighting}
use Rattle.lighting.specs.declared.Lookup.{Lookup}
use Rattle.lighting.specs.declared.Slot.{Slot}
use Rattle.lighting.specs.declared.TableLookups.{TableLookups}
use Rattle.decoding.specs.Registers.{reg_enable, reg_global_ambient, reg_config0, reg_disable, register_of, flag_of}
use Rattle.decoding.specs.Read.{flatten, slots, bump, shadow, config, light_count, light_number, light, lighting, read}
use Rattle.decoding.specs.Steps.{light_register, light_colour, position_of, spot_of, distance_of, spotlit_of, light_of, slot_light, lights_of, lookups_of, has_spotlight, is_geometric, lit_lights, input_half, input_view, lookup_half, lookup_view, half_input, view_input, needs_half, needs_view, lighting_of, lighting_on, read_steps}

-- ---- the lights

module _ (f : List ℕ) where
  light_law : (slot : Slot) → light f slot ≡ light_of f (light_number f slot)
  unfolding light light_of light_colour light_register position_of spot_of distance_of spotlit_of
  light_law slot = refl

  slot_law : (slot : Slot) → cond (ltb slot.0 (light_count f)) (light f slot) blank_light ≡ slot_light f slot
  unfolding slot_light
  slot_law slot = rw light_law

  eight_law : map (λ (slot : Slot). cond (ltb slot.0 (light_count f)) (light f slot) blank_light) slots ≡ lights_of f
  unfolding lights_of
  eight_law = simp slot_law

-- ---- what the lights and the lookups need

inputs_half_law : (config : ℕ) (o : Option Lookup) → list_any (λ l. input_half config l.input) (flatten o) ≡ lookup_half config o
unfolding flatten lookup_half
inputs_half_law config None = refl
inputs_half_law config (Some l) = rw or-false

inputs_view_law : (o : Option Lookup) → list_any (λ l. input_view l.input) (flatten o) ≡ lookup_view o
unfolding flatten lookup_view
inputs_view_law None = refl
inputs_view_law (Some l) = rw or-false

spotlights_law : (p : Lookup → Bool) (lit : Bool) (l : Lookup) → list_any p (cond lit (l ∷ []) []) ≡ (lit && p l)
spotlights_law p true l = rw or-false
spotlights_law p false l = refl

-- some lookup of six optional ones and of the spotlights'
tables_law : (p : Lookup → Bool) (a b c d e g : Option Lookup) (lit : Bool) (l : Lookup)
    → list_any p (flatten a ++ flatten b ++ flatten c ++ flatten d ++ flatten e ++ flatten g ++ cond lit (l ∷ []) [])
    ≡ (list_any p (flatten a) || list_any p (flatten b) || list_any p (flatten c) || list_any p (flatten d) || list_any p (flatten e) || list_any p (flatten g) || (lit && p l))
tables_law p a b c d e g lit l = simp (list_any-append, spotlights_law)

module _ (config : ℕ) (on : List Light) (a b c d e g : Option Lookup) (s : Lookup) where
  abbrev lookups : TableLookups
  lookups = record { distribution0 = a; distribution1 = b; fresnel = c; reflect_red = d; reflect_green = e; reflect_blue = g; spotlight = s }

  abbrev tables : List Lookup
  tables = flatten a ++ flatten b ++ flatten c ++ flatten d ++ flatten e ++ flatten g ++ cond (list_any has_spotlight on) (s ∷ []) []

  abbrev needs_half_by : Bool
  needs_half_by = list_any is_geometric on || list_any (λ (l : Lookup). input_half config l.input) tables

  abbrev needs_view_by : Bool
  needs_view_by = needs_half_by || list_any (λ (l : Lookup). input_view l.input) tables

  needs_half_law : needs_half_by ≡ (list_any is_geometric on || half_input config (list_any has_spotlight on) lookups)
  unfolding half_input
  needs_half_law = simp (tables_law, inputs_half_law)

  needs_view_law : needs_view_by ≡ (list_any is_geometric on || half_input config (list_any has_spotlight on) lookups || view_input (list_any has_spotlight on) lookups)
  unfolding view_input
  needs_view_law = rw needs_half_law (simp (tables_law, inputs_view_law))

-- ---- the lighting

module _ (f : List ℕ) where
  -- from its lights and what they and the lookups need
  lighting_with : List Light → Bool → Bool → Lighting
  lighting_with lights half view =
      record {
        lights = lights;
        light_count = light_count f;
        global_ambient = colour_of (register_of f reg_global_ambient);
        config = config f;
        distribution0 = (lookups_of f).distribution0;
        distribution1 = (lookups_of f).distribution1;
        fresnel = (lookups_of f).fresnel;
        reflect_red = (lookups_of f).reflect_red;
        reflect_green = (lookups_of f).reflect_green;
        reflect_blue = (lookups_of f).reflect_blue;
        spotlight = (lookups_of f).spotlight;
        fresnel_primary = flag_of (register_of f reg_config0) 2;
        fresnel_secondary = flag_of (register_of f reg_config0) 3;
        clamp_highlights = flag_of (register_of f reg_config0) 27;
        needs_half = half;
        needs_view = view;
        bump = bump (register_of f reg_config0);
        shadow = shadow (register_of f reg_config0);
      }

  with_law : (lights : List Light) {half half' view view' : Bool} → half ≡ half' → view ≡ view' → lighting_with lights half view ≡ lighting_with lights half' view'
  with_law lights h1 h2 = cc

  lighting_by : List Light → Lighting
  lighting_by lights =
      let on = take (light_count f) lights in
      let l = lookups_of f in
      lighting_with lights
      (needs_half_by (config f) on l.distribution0 l.distribution1 l.fresnel l.reflect_red l.reflect_green l.reflect_blue l.spotlight)
      (needs_view_by (config f) on l.distribution0 l.distribution1 l.fresnel l.reflect_red l.reflect_green l.reflect_blue l.spotlight)

  by_law : {lights lights' : List Light} → lights ≡ lights' → lighting_by lights ≡ lighting_by lights'
  by_law h = cc

  lighting_law : lighting f ≡ lighting_of f
  unfolding lighting lighting_by lighting_with lighting_of lookups_of needs_half needs_view lit_lights input_half input_view
  lighting_law =
      let on = take (light_count f) (lights_of f) in
      let l = lookups_of f in
      by_law (eight_law f)
      ∙ with_law (lights_of f)
      (needs_half_law (config f) on l.distribution0 l.distribution1 l.fresnel l.reflect_red l.reflect_green l.reflect_blue l.spotlight)
      (needs_view_law (config f) on l.distribution0 l.distribution1 l.fresnel l.reflect_red l.reflect_green l.reflect_blue l.spotlight)

-- ---- the whole

off_law : (a b : Bool) (l m : Lighting) → l ≡ m → cond (not a || b) off (on l) ≡ cond (a && not b) (on m) off
off_law true true l m h = refl
off_law true false l m h = cc
off_law false b l m h = refl

pub read_law : (f : List ℕ) → read f ≡ read_steps f
unfolding read read_steps lighting_on
read_law f = off_law (flag_of (register_of f reg_enable) 0) (flag_of (register_of f reg_disable) 0) (lighting f) (lighting_of f) (lighting_law f)
