-- What the code of a hand-over computes step by step, past the refusals by length; nobody has to trust it: the proofs of `take`, `hand_over` and `is_formed`
-- tie it to the law, Unit. Definitions only.
use Rattle.std.specs.Prelude.{ℕ, List, Bool, true, false, cond, eqb, Option, Result, Ok, Err}
use Rattle.refusals.specs.Refusals.{number_of, switch_number}
use Rattle.refusals.specs.declared.Switch.{Switch}
use Rattle.lighting.specs.declared.Lighting.{Lighting}
use Rattle.block.specs.Block.{Packing, packing, packed_reading}
use Rattle.block.specs.declared.BlockForm.{BlockForm}
use Rattle.block.specs.declared.BlockForm.TheVariants.{Off, NotWellFormed, NanFree, WithNan}
use Rattle.unit.specs.declared.lent.LentRefusal.{LentRefusal}
use Rattle.unit.specs.declared.lent.LentRefusal.TheVariants.{Refused, WrongCache}
use Rattle.unit.specs.Unit.{packable}

-- packing into the block b: 0 or 7, and the block afterwards
unfoldable pub packs_reading : Option Lighting → List ℕ → Packing
packs_reading d b = cond (packable d) (packing 0 (packed_reading d)) (packing 7 b)

-- 0 or 7, and the copy's block and tables afterwards
pub record Took : Type 0 where
  pub number : ℕ
  pub block : List ℕ
  pub tables : List ℕ

abbrev pub took : ℕ → List ℕ → List ℕ → Took
took k b t = record { number = k; block = b; tables = t }

-- a lighting, the unit's tables and generation; the copy's block, tables and generation
unfoldable pub takes : Option Lighting → List ℕ → ℕ → List ℕ → List ℕ → ℕ → Took
takes d t g b ct cg = cond (packable d) (took 0 (packed_reading d) (cond (eqb g cg) ct t)) (took 7 b ct)

-- whether shading takes a block of this form
unfoldable pub is_formed : BlockForm → Bool
is_formed Off = true
is_formed NotWellFormed = false
is_formed NanFree = true
is_formed WithNan = true

-- ---- What an answer of the calls on lent words says

unfoldable pub lent_refusal_number : LentRefusal → ℕ
lent_refusal_number (Refused k) = number_of k
lent_refusal_number WrongCache = 101

-- 0 where the call is done
abbrev pub lent_outcome_number : Result (Unit {0}) LentRefusal → ℕ
lent_outcome_number (Ok done) = 0
lent_outcome_number (Err k) = lent_refusal_number k

-- 0 where it is lit, 100 where it is off
abbrev pub lent_switch_number : Result Switch LentRefusal → ℕ
lent_switch_number (Ok switch) = switch_number (Ok switch)
lent_switch_number (Err k) = lent_refusal_number k
