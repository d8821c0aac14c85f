-- `register_lighting::lighting` meets its contract. Each field is what the call that makes it ensures, the global ambient the first of four colours,
-- and the lights on are the first of the eight.
use Rattle.fields.specs.Fields.{colour_of}
use Rattle.decoding.specs.Steps.{four_colours, lights_of, lit_lights, needs_half, needs_view, lighting_of}
use Rattle.std.proofs.Common.{◌≡◌}
use Rattle.decoding.proofs.LightLaws.{count_high}
use Rattle.decoding.proofs.register_lighting.lighting.Goals as goal

pub some_light-some-requires : goal.some_light-some-requires
some_light-some-requires c = rw c.light_count-count.ensures (count_high c.args.file.now)

pub returns : goal.returns
unfolding lighting_of needs_half needs_view lit_lights four_colours colour_of
returns c =
    simp (
      c.register-config0.ensures,
      c.configuration-config.ensures,
      c.light_count-count.ensures,
      c.lights-lights.ensures,
      c.lookups-tables.ensures,
      c.some_light-some.ensures.0,
      c.some_light-some.ensures.1,
      c.half_input.ensures,
      c.view_input.ensures,
      c.register.ensures,
      c.colors-ambient.ensures,
      c.flag.ensures,
      c.flag-2.ensures,
      c.flag-3.ensures,
      c.bump.ensures,
      c.shadow.ensures,
    )
