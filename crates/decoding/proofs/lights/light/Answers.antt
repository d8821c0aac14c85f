-- `lights::light` meets its contract. Each field is what the call that makes it ensures, and each colour three of the channels of the four.
use Rattle.fields.specs.Fields.{colour_of}
use Rattle.decoding.specs.Steps.{four_colours, light_colour, light_of}
use Rattle.decoding.proofs.lights.light.Goals as goal

pub returns : goal.returns
unfolding light_of light_colour four_colours colour_of
returns c =
    simp (
      c.position-position.ensures,
      c.light_register-flags.ensures,
      c.light_register.ensures,
      c.light_register-2.ensures,
      c.light_register-3.ensures,
      c.light_register-4.ensures,
      c.colors-channels.ensures,
      c.normalized.ensures,
      c.spot.ensures,
      c.flag.ensures,
      c.flag-2.ensures,
      c.flag-3.ensures,
      c.flag-4.ensures,
      c.distance.ensures,
      c.spotlit.ensures,
      c.register.ensures,
      c.flag-5.ensures,
    )
