-- A lighting whose parts are known: it is the head's options and lookups beside its lights. Each part is put in the place of its definition. Assumes nothing.
use Prim.Native.Nat.{ℕ}
use mathlib.Core.Path.{◌≡◌, refl}
use mathlib.Core.List.{List}
use lib.Ieee.{Float}
use Rattle.lighting.specs.declared.Light.{Light}
use Rattle.lighting.specs.declared.Lighting.{Lighting}
use Rattle.lighting.specs.declared.TableLookups.{TableLookups}
use Rattle.block.specs.Block.{block_vector, block_lighting_with}
use Rattle.block_reading.specs.declared.head.Options.{Options}
use Rattle.block_reading.specs.Steps.{head_options, head_lookups}

pub lighting_made : (w : ℕ → ℕ) (s : Options) (o : TableLookups) (ls : List Light) (n : ℕ) (a : List Float)
    → s ≡ head_options w
    → o ≡ head_lookups w
    → n ≡ w 1
    → a ≡ block_vector w 36
    → ◌≡◌ {A = Lighting} (record {
      lights = ls;
      light_count = n;
      global_ambient = a;
      config = s.config;
      distribution0 = o.distribution0;
      distribution1 = o.distribution1;
      fresnel = o.fresnel;
      reflect_red = o.reflect_red;
      reflect_green = o.reflect_green;
      reflect_blue = o.reflect_blue;
      spotlight = o.spotlight;
      fresnel_primary = s.fresnel_primary;
      fresnel_secondary = s.fresnel_secondary;
      clamp_highlights = s.clamp_highlights;
      needs_half = s.needs_half;
      needs_view = s.needs_view;
      bump = s.bump;
      shadow = s.shadow;
    }) (block_lighting_with w ls)
unfolding head_options head_lookups
lighting_made w s o ls n a p q t u = rw (p, q, t, u) refl
