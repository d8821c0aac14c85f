-- What the code computes step by step, or asks of its arguments; nobody has to trust it: `color`, `half` and `float20` ask nothing, and their contracts cite the
-- law, `colour_of` and `short_float` of Fields. Definitions only.
use Rattle.std.specs.Prelude.{ℕ, zero, suc, ◌-◌, ◌*◌, ◌≤◌, List, Float, replicate, set}
use Rattle.binary32.specs.Binary32.{float0}
use Rattle.fields.specs.Fields.{colour_field}

pub record ShortWidths (m e : ℕ) : Type 0 where
  pub m_low : 1 ≤ m
  pub m_high : m ≤ 12
  pub e_low : 2 ≤ e
  pub e_high : e ≤ 7

-- a colour's channels once i of the three are put in
unfoldable pub channels_to : ℕ → ℕ → List Float
channels_to w zero = replicate 3 float0
channels_to w (suc i) = set (channels_to w i) i (colour_field w (20 - 10 * i))
