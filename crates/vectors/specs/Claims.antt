-- What the type of a vector says. Statements only.
use Rattle.std.specs.Prelude.{ℕ, ◌≡◌, List, T, length, Float}
use Rattle.std.specs.Float.{binary32}
use Rattle.std.specs.Float.Ieee.{fits}
use Rattle.vectors.specs.Vectors.{at}

-- three components, each of which binary32 holds
pub record Vector (v : List Float) : Type 0 where
  pub long : length v ≡ 3
  pub fit : (i : ℕ) → T (fits binary32 (at v i))
