-- What callers need to know of `read`: it looks at no register but the 139 of `registers_read`, every word that a definition reads being one of
-- them; and it is off or a lighting within the limits that packing asks for. Assumes nothing.
use Rattle.std.specs.Prelude.{ℕ, ◌≡◌, Bool, cond, List, Option, is_some}
use Rattle.std.proofs.Math.Path.{refl}
use Rattle.std.proofs.Common.{◌∙◌, sym, arith}
use Rattle.std.proofs.Math.Bool.{true, false}
use Rattle.lighting.specs.Lighting.{off, on}
use Rattle.lighting.specs.declared.Lighting.{Lighting}
use Rattle.decoding.specs.Claims.{SameKept, Limits}
use Rattle.decoding.proofs.SameLaws.{count_same, config_same, lights_same}
use Rattle.decoding.specs.Read.{lookup, table, read, registers_read}
use Rattle.decoding.specs.Steps.{lookups_of, lit_lights, needs_half, needs_view, lighting_of, lighting_on, read_steps}
use Rattle.decoding.proofs.KeptLaws.{kept_same}
use Rattle.decoding.proofs.LimitLaws.{lighting_limits}
use Rattle.decoding.proofs.ReadLaws.{read_law}

module _ (f g : List ℕ) (s : SameKept f g) where
  lookups_same : lookups_of f ≡ lookups_of g
  unfolding lookups_of table lookup
  lookups_same =
      simp (config_same f g s.lights, s.lights.blocks 132 (omega arith), s.tables 0 (omega arith), s.tables 1 (omega arith), s.tables 2 (omega arith))

  lighting_same : lighting_of f ≡ lighting_of g
  unfolding lighting_of needs_half needs_view lit_lights
  lighting_same =
      simp (lookups_same, lights_same f g s.lights, count_same f g s.lights, config_same f g s.lights, s.lights.blocks 128 (omega arith), s.lights.blocks 131 (omega arith))

  steps_same : read_steps f ≡ read_steps g
  unfolding read_steps lighting_on
  steps_same = rw (s.enable, s.disable, lighting_same)

-- files that agree on those registers read alike
pub read_same_kept : (f g : List ℕ) → SameKept f g → read f ≡ read g
read_same_kept f g s = read_law f ∙ steps_same f g s ∙ sym (read_law g)

pub read_same : (f g : List ℕ) → registers_read f ≡ registers_read g → read f ≡ read g
read_same f g e = read_same_kept f g (kept_same f g e)

pub read_either : (P : Option Lighting → Type 0) (f : List ℕ) → ((l : Lighting) → Limits l → P (on l)) → P off → P (read f)
unfolding read_steps
read_either P f is-on is-off = rw (read_law f) (go (lighting_on f))
  where
    go : (b : Bool) → P (cond b (on (lighting_of f)) off)
    go true = is-on (lighting_of f) (lighting_limits f)
    go false = is-off

-- the two cases of a reading
module _ (f : List ℕ) where
  pub read-on : is_some (read f) ≡ lighting_on f
  unfolding read_steps
  read-on = rw (read_law f) (go (lighting_on f))
    where
      go : (b : Bool) → is_some (cond b (on (lighting_of f)) off) ≡ b
      go true = refl
      go false = refl

  pub read-lit : is_some (read f) ≡ true → read f ≡ on (lighting_of f)
  unfolding read_steps
  read-lit e = read_law f ∙ rw (sym read-on ∙ e) refl

  pub read_unlit : is_some (read f) ≡ false → read f ≡ off
  unfolding read_steps
  read_unlit e = read_law f ∙ rw (sym read-on ∙ e) refl
