-- The generation after a write, or a restore, is the one that it raised, and where it is refused the one before. Assumes nothing.
use Rattle.std.proofs.Common.{ℕ, ◌≡◌, List, Result, Ok, Err, refl}
use Rattle.std.specs.Result.{result_unwrap_or}
use Rattle.refusals.specs.declared.Refusal.{Refusal}
use Rattle.tables.specs.Tables.{Wrote, Restored, wrote_of, restored_of}
use Rattle.unit.specs.declared.Cache.{Cache}
use Rattle.lists.specs.States.{CopyState, State, unit_state, state}

-- the unit's state after a write
abbrev pub state_of : Cache → CopyState → Wrote → State Cache
state_of h k w = state (unit_state w.file w.tables w.generation h) k

pub after_write : (r : Result ℕ Refusal) (f t : List ℕ) (g : ℕ) (h : Cache) (k : CopyState) → state (unit_state f t (result_unwrap_or r g) h) k ≡ state_of h k (wrote_of r g f t)
after_write (Ok raised) f t g h k = refl
after_write (Err refusal) f t g h k = refl

-- after a restore, beside the file f
abbrev pub state_with : List ℕ → Cache → CopyState → Restored → State Cache
state_with f h k w = state (unit_state f w.tables w.generation h) k

pub after_restore : (r : Result ℕ Refusal) (f t : List ℕ) (g : ℕ) (h : Cache) (k : CopyState) → state (unit_state f t (result_unwrap_or r g) h) k ≡ state_with f h k (restored_of r g t)
after_restore (Ok raised) f t g h k = refl
after_restore (Err refusal) f t g h k = refl
