-- Serves the proof of demand 3 only, and nobody has to trust it: what holds of unit, copy and plain machine after every list of calls, and more
-- after an accepted hand-over. Definitions only.
use Rattle.std.specs.Prelude.{ℕ, ◌+◌, ◌≤◌, ◌≡◌, List, ◌⊎◌, length, take, Some}
use Rattle.unit.specs.declared.Cache.{Cache}
use Rattle.decoding.specs.Read.{read, registers_read}
use Rattle.block.specs.Block.{packed_reading}
use Rattle.lists.specs.States.{UnitState, CopyState, State}
use Rattle.lists.specs.Plain.{Machine}

-- from u to w the unit's generation and tables stay as they were, or its generation rises by 1
abbrev pub Rises : UnitState Cache → UnitState Cache → Type 0
Rises u w =
    ((w.generation ≡ u.generation) × (w.tables ≡ u.tables)) ⊎ (w.generation ≡ u.generation + 1)

-- a cache is empty, or holds the lighting of every register file with its kept words
abbrev pub Sound : Cache → Type 0
Sound c = (f : List ℕ) → c.kept ≡ Some (registers_read f) → read f ≡ c.decoded

-- the unit, whose file has n words, holds what the machine holds
pub record Matches (n : ℕ) (u : UnitState Cache) (m : Machine) : Type 0 where
  pub file_length : length u.file ≡ n
  pub registers : take 474 u.file ≡ m.registers
  pub entries : u.tables ≡ m.entries
  pub tables_length : length u.tables ≡ 12288
  pub sound : Sound u.cache

-- after k calls
pub record Inv (n k : ℕ) (s : State Cache) (m : Machine) : Type 0 where
  pub unit : Matches n s.unit m
  pub block_length : length s.copy.block ≡ 328
  pub copy_length : length s.copy.tables ≡ 12288
  pub behind : s.copy.generation ≤ s.unit.generation
  pub count : s.unit.generation ≤ k
  pub agree : s.unit.generation ≡ s.copy.generation → s.unit.tables ≡ s.copy.tables

-- the copy has the block of the machine's registers and the machine's entries
pub record Shows (c : CopyState) (m : Machine) : Type 0 where
  pub block : c.block ≡ packed_reading (read m.registers)
  pub tables : c.tables ≡ m.entries
