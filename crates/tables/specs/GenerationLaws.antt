-- A generation below 2^64 − 1 is not the last. Assumes nothing.
use Rattle.std.specs.Prelude.{◌≡◌, ℕ, ◌<◌, false}
use Rattle.std.proofs.Common.{arith, ne_eqb}
use Rattle.tables.specs.Tables.{last}

pub below_last : (g : ℕ) → g < 0xFFFFFFFFFFFFFFFF → last g ≡ false
unfolding last
below_last g h = ne_eqb g 0xFFFFFFFFFFFFFFFF (λ e. omega arith)
