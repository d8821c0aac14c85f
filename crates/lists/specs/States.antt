-- A unit and a copy as what they hold, and an implementation of their calls as functions on that. What a cache is, an implementation says itself:
-- here it is any type C. Definitions only.
use Rattle.std.specs.Prelude.{ℕ, List, replicate}
use Rattle.tables.specs.Tables.{Wrote, Restored}
use Rattle.unit.specs.Unit.{Cached, Handed}
use Rattle.shading.specs.Shade.{Shaded}

-- "A unit is a register file (at least 474 words; only the first 474 count), a table slice (12,288 words: ..), a 64-bit generation and a cache."
pub record UnitState (C : Type 0) : Type 0 where
  pub file : List ℕ
  pub tables : List ℕ
  pub generation : ℕ
  pub cache : C

-- "A copy is a block, a table slice and a generation"
pub record CopyState : Type 0 where
  pub block : List ℕ
  pub tables : List ℕ
  pub generation : ℕ

pub record State (C : Type 0) : Type 0 where
  pub unit : UnitState C
  pub copy : CopyState

abbrev pub unit_state : {C : Type 0} → List ℕ → List ℕ → ℕ → C → UnitState C
unit_state f t g c = record { file = f; tables = t; generation = g; cache = c }

abbrev pub copy_state : List ℕ → List ℕ → ℕ → CopyState
copy_state b t g = record { block = b; tables = t; generation = g }

abbrev pub state : {C : Type 0} → UnitState C → CopyState → State C
state u c = record { unit = u; copy = c }

-- "Fresh: all zero, cache empty.", the empty cache being c and the file n words; and a copy "fresh all zero"
unfoldable pub fresh : {C : Type 0} → C → ℕ → State C
fresh c n =
    state (unit_state (replicate n 0) (replicate 12288 0) 0 c)
    (copy_state (replicate 328 0) (replicate 12288 0) 0)

-- An implementation is, for each call, what it answers and leaves for what it gets; and the cache of its fresh units.
pub record Implementation (C : Type 0) : Type 0 where
  pub empty_cache : C
  -- file, tables, generation; register, value
  pub write : List ℕ → List ℕ → ℕ → ℕ → ℕ → Wrote
  -- tables, generation; saved words
  pub restore : List ℕ → ℕ → List ℕ → Restored
  -- file, cache
  pub cached_read : List ℕ → C → Cached C
  -- the unit's file, tables, generation and cache; the copy's block, tables and generation
  pub hand_over : List ℕ → List ℕ → ℕ → C → List ℕ → List ℕ → ℕ → Handed C
  -- block, tables, fragment, answer
  pub block_shading : List ℕ → List ℕ → List ℕ → List ℕ → Shaded
