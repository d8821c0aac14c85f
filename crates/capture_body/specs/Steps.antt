-- What the code computes step by step; nobody has to trust it: `run_capture`'s contract speaks of `Capture` of capture_calls alone. A unit and a copy that are lent to a body of a
-- capture. Definitions only.
use Rattle.std.specs.Prelude.{ℕ, List}
use Rattle.unit.specs.declared.Cache.{Cache}
use Rattle.lists.specs.States.{State, unit_state, copy_state, state}
use Rattle.capture_body.specs.declared.Held.{Held}

-- a unit and a copy by their slices, the unit's file and tables and the copy's block and tables, and what is held beside them
abbrev pub lent_state : List ℕ → List ℕ → List ℕ → List ℕ → Held → State Cache
lent_state f t b ct h = state (unit_state f t h.generation h.cache) (copy_state b ct h.age)
