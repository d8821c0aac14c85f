-- A spotlight's component is a value of binary32, since a quotient is rounded to one. Assumes nothing.
use Rattle.std.specs.Prelude.{ℕ, T}
use Rattle.std.specs.Float.{binary32}
use Rattle.std.specs.Float.Ieee.{fits}
use Rattle.std.specs.Float.Ieee.Fits.{div-fits}
use Rattle.fields.specs.Fields.{fixed_of}

pub fixed_fits : (w : ℕ) → T (fits binary32 (fixed_of w))
unfolding fixed_of
fixed_fits w = div-fits binary32 _ _
