-- The lights come from their blocks, 1C2, 1C3, 1C4 and 1D9 alone: two files that agree there set up the same lights, since every word that a definition reads is one of those. Assumes nothing.
use Rattle.std.specs.Prelude.{ℕ, ◌+◌, ◌*◌, ◌<◌, ◌≡◌, List}
use native.Mathlib.Omega.{arith}
use Rattle.lighting.specs.declared.Slot.{Slot}
use Rattle.lighting.specs.declared.LightNumber.{LightNumber}
use Rattle.decoding.specs.Registers.{reg_lights}
use Rattle.decoding.specs.Read.{config, light_count, light_number}
use Rattle.decoding.specs.Steps.{light_register, light_colour, position_of, spot_of, distance_of, spotlit_of, light_of, slot_light, lights_of}
use Rattle.decoding.specs.Claims.{SameLights}
use Rattle.decoding.proofs.LightLaws.{number_lt}

module _ (f g : List ℕ) (s : SameLights f g) where
  pub count_same : light_count f ≡ light_count g
  unfolding light_count
  count_same = rw (s.blocks 130 (omega arith))

  pub config_same : config f ≡ config g
  unfolding config
  config_same = rw (s.blocks 131 (omega arith))

  number_same : (slot : Slot) → light_number f slot ≡ light_number g slot
  unfolding light_number
  number_same slot = rw s.slots

  register_same : (n : LightNumber) (offset : ℕ) → n.0 < 8 → offset < 16 → light_register f n offset ≡ light_register g n offset
  unfolding light_register
  register_same n offset h k =
      let e : reg_lights + n.0 * 0x10 + offset ≡ reg_lights + (n.0 * 0x10 + offset) = omega arith in
      rw e (s.blocks (n.0 * 0x10 + offset) (omega arith))

  light_same : (n : LightNumber) → n.0 < 8 → light_of f n ≡ light_of g n
  unfolding light_of light_colour position_of spot_of distance_of spotlit_of
  light_same n h =
      simp (
        config_same,
        s.blocks 132 (omega arith),
        register_same n 0 h (omega arith),
        register_same n 1 h (omega arith),
        register_same n 2 h (omega arith),
        register_same n 3 h (omega arith),
        register_same n 4 h (omega arith),
        register_same n 5 h (omega arith),
        register_same n 6 h (omega arith),
        register_same n 7 h (omega arith),
        register_same n 9 h (omega arith),
        register_same n 0xA h (omega arith),
        register_same n 0xB h (omega arith),
      )

  slot_same : (slot : Slot) → slot_light f slot ≡ slot_light g slot
  unfolding slot_light
  slot_same slot = rw (count_same, number_same slot, light_same (light_number g slot) (number_lt g slot))

  pub lights_same : lights_of f ≡ lights_of g
  unfolding lights_of
  lights_same = simp slot_same
