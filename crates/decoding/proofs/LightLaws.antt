-- What holds of the lights of every register file: their count and their numbers are small, the lights beyond the count are blank, and what a light holds are values of binary32. Assumes nothing.
use Rattle.std.specs.Prelude.{ℕ, zero, suc, ◌+◌, ◌≤◌, ◌<◌, ◌≡◌, refl, Bool, cond, List, T, ltb, length, get_or, None, Some}
use Rattle.std.proofs.Math.Bool.{true, false}
use Rattle.std.proofs.Common.{arith, le-ltb}
use Rattle.std.specs.Float.{binary32}
use Rattle.std.specs.Float.Ieee.{fits}
use Rattle.std.specs.Float.Ieee.Bits.{of_bits-fits}
use Rattle.fields.specs.Fields.{colour_of, short_float}
use Rattle.fields.specs.ColourLaws.{field_fits}
use Rattle.fields.specs.FixedLaws.{fixed_fits}
use Rattle.fields.specs.ShortFloatLaws.{float_fits}
use Rattle.vectors.specs.VectorsLaws.{three, normalized_vector}
use Rattle.vectors.specs.Claims.{Vector}
use Rattle.lighting.specs.Lighting.{zero_float, zero_vector, blank_light}
use Rattle.lighting.specs.declared.Slot.{Slot}
use Rattle.lighting.specs.declared.LightNumber.{LightNumber}
use Rattle.lighting.specs.declared.Light.{Light}
use Rattle.lighting.specs.Claims.{DistanceFits, LightFits}
use Rattle.decoding.specs.Registers.{reg_config1, register_of, flag_of}
use Rattle.decoding.specs.Read.{config, light_count, light_number}
use Rattle.decoding.specs.Steps.{light_register, light_colour, position_of, spot_of, distance_of, light_of, slot_light, lights_of}

-- ---- counts and numbers

pub count_low : (f : List ℕ) → 1 ≤ light_count f
unfolding light_count
count_low f = omega arith

pub count_high : (f : List ℕ) → light_count f ≤ 8
unfolding light_count
count_high f = omega arith

pub config_lt : (f : List ℕ) → config f < 16
unfolding config
config_lt f = omega arith

pub number_lt : (f : List ℕ) (s : Slot) → (light_number f s).0 < 8
unfolding light_number
number_lt f s = omega arith

-- ---- the eight lights

pub lights_length : (f : List ℕ) → length (lights_of f) ≡ 8
unfolding lights_of
lights_length f = refl

pub light_at_lem : (f : List ℕ) (s : ℕ) (d : Light) → s < 8 → get_or (lights_of f) s d ≡ slot_light f (record { 0 = s })
unfolding lights_of
light_at_lem f zero d h = refl
light_at_lem f (suc zero) d h = refl
light_at_lem f (suc (suc zero)) d h = refl
light_at_lem f (suc (suc (suc zero))) d h = refl
light_at_lem f (suc (suc (suc (suc zero)))) d h = refl
light_at_lem f (suc (suc (suc (suc (suc zero))))) d h = refl
light_at_lem f (suc (suc (suc (suc (suc (suc zero)))))) d h = refl
light_at_lem f (suc (suc (suc (suc (suc (suc (suc zero))))))) d h = refl
light_at_lem f (suc (suc (suc (suc (suc (suc (suc (suc s)))))))) d h = absurd (omega arith)

pub blank_beyond : (f : List ℕ) (s : Slot) → light_count f ≤ s.0 → slot_light f s ≡ blank_light
unfolding slot_light
blank_beyond f s h = rw (le-ltb s.0 (light_count f) h)

-- what holds of the blank light and of each light of the registers holds of the light in a slot
slot_either : (P : Light → Type 0) (f : List ℕ) (s : Slot) → P (light_of f (light_number f s)) → P blank_light → P (slot_light f s)
unfolding slot_light
slot_either P f s h k = go (ltb s.0 (light_count f))
  where
    go : (b : Bool) → P (cond b (light_of f (light_number f s)) blank_light)
    go true = h
    go false = k

blank_number : blank_light.number.0 < 8
unfolding blank_light
blank_number = omega arith

light_number_lem : (f : List ℕ) (n : LightNumber) → n.0 < 8 → (light_of f n).number.0 < 8
unfolding light_of
light_number_lem f n h = h

pub slot_number_lt : (f : List ℕ) (s : Slot) → (slot_light f s).number.0 < 8
slot_number_lt f s = slot_either (λ (l : Light). l.number.0 < 8) f s (light_number_lem f (light_number f s) (number_lt f s)) blank_number

-- ---- the floats

pub colour_vector : (w : ℕ) → Vector (colour_of w)
unfolding colour_of
colour_vector w = three _ _ _ (field_fits w 20) (field_fits w 10) (field_fits w 0)

module _ (f : List ℕ) (n : LightNumber) where
  light_colour_lem : (offset : ℕ) → Vector (light_colour f n offset)
  unfolding light_colour
  light_colour_lem offset = colour_vector (light_register f n offset)

  light_position : Vector (position_of f n)
  unfolding position_of
  light_position = three _ _ _ (float_fits 10 5 _) (float_fits 10 5 _) (float_fits 10 5 _)

  light_spot : Vector (spot_of f n)
  unfolding spot_of
  light_spot = three _ _ _ (fixed_fits _) (fixed_fits _) (fixed_fits _)

  light_distance : DistanceFits (distance_of f n)
  unfolding distance_of
  light_distance = go (flag_of (register_of f reg_config1) (24 + n.0))
    where
      go : (b : Bool) → DistanceFits (cond b None (Some (record { bias = short_float 12 7 (light_register f n 0xA); scale = short_float 12 7 (light_register f n 0xB) })))
      go true = tt
      go false = (float_fits 12 7 (light_register f n 0xA), float_fits 12 7 (light_register f n 0xB))

  light_fits : LightFits (light_of f n)
  unfolding light_of
  light_fits =
      record {
        specular0 = light_colour_lem 0;
        specular1 = light_colour_lem 1;
        diffuse = light_colour_lem 2;
        ambient = light_colour_lem 3;
        position = light_position;
        direction = normalized_vector (position_of f n);
        spot = light_spot;
        distance = light_distance;
      }

zero_fits : T (fits binary32 zero_float)
zero_fits = of_bits-fits binary32 0

zero_vector_lem : Vector zero_vector
zero_vector_lem = three zero_float zero_float zero_float zero_fits zero_fits zero_fits

blank_fits : LightFits blank_light
unfolding blank_light
blank_fits =
    record {
      specular0 = zero_vector_lem;
      specular1 = zero_vector_lem;
      diffuse = zero_vector_lem;
      ambient = zero_vector_lem;
      position = zero_vector_lem;
      direction = zero_vector_lem;
      spot = zero_vector_lem;
      distance = tt;
    }

pub slot_fits : (f : List ℕ) (s : Slot) → LightFits (slot_light f s)
slot_fits f s = slot_either LightFits f s (light_fits f (light_number f s)) blank_fits
