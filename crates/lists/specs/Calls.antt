-- Lists of calls on a unit and a copy, run by an implementation. Definitions only.
use Rattle.std.specs.Prelude.{ℕ, ◌<◌, ◌≡◌, List, [], ◌∷◌, length}
use Rattle.lists.specs.States.{State, unit_state, copy_state, state, Implementation}

-- the lengths that a call refuses
abbrev pub ShortFile : ℕ → Type 0
ShortFile n = n < 474

abbrev pub NotTables : ℕ → Type 0
NotTables n = n ≡ 12288 → ⊥

abbrev pub NotBlock : ℕ → Type 0
NotBlock n = n ≡ 328 → ⊥

-- "In place of any of their slices a call may be lent one whose length it refuses"
pub data Lent (Refused : ℕ → Type 0) : Type 0 where
  own : Lent Refused
  instead : (s : List ℕ) → Refused (length s) → Lent Refused

-- each call with what it is lent for the slices of unit and copy, in the order of its refusals, and then its arguments
pub data Call : Type 0 where
  -- file, tables; register, value
  Write : Lent ShortFile → Lent NotTables → (register value : ℕ) → Call
  -- tables; saved words
  Restore : Lent NotTables → (saved : List ℕ) → Call
  -- file
  Read : Lent ShortFile → Call
  -- file, unit's tables, copy's tables, block
  HandOver : Lent ShortFile → Lent NotTables → Lent NotTables → Lent NotBlock → Call

module _ {Refused : ℕ → Type 0} where
  -- the slice that the call gets, where s stands in unit or copy
  abbrev pub lent : List ℕ → Lent Refused → List ℕ
  lent s own = s
  lent s (instead t h) = t

  -- "the next call then gets what stood before": s stood there, and the call left t in the slice that it got
  abbrev pub left : List ℕ → Lent Refused → List ℕ → List ℕ
  left s own t = t
  left s (instead u h) t = s

module _ {C : Type 0} (I : Implementation C) where
  -- "Each call gets unit and copy as the last one left them"
  unfoldable pub step : State C → Call → State C
  step s (Write f t r v) =
      let u = s.unit in
      let w = I.write (lent u.file f) (lent u.tables t) u.generation r v in
      state (unit_state (left u.file f w.file) (left u.tables t w.tables) w.generation u.cache) s.copy
  step s (Restore t saved) =
      let u = s.unit in
      let w = I.restore (lent u.tables t) u.generation saved in
      state (unit_state u.file (left u.tables t w.tables) w.generation u.cache) s.copy
  step s (Read f) =
      let u = s.unit in
      let w = I.cached_read (lent u.file f) u.cache in
      state (unit_state u.file u.tables u.generation w.cache) s.copy
  step s (HandOver f t ct b) =
      let u = s.unit in
      let c = s.copy in
      let w = I.hand_over (lent u.file f) (lent u.tables t) u.generation u.cache (lent c.block b) (lent c.tables ct) c.generation in
      state (unit_state u.file u.tables u.generation w.cache) (copy_state (left c.block b w.block) (left c.tables ct w.tables) w.generation)

  -- the number that the call returns: 0, or its refusal's
  unfoldable pub answer : State C → Call → ℕ
  answer s (Write f t r v) =
      (I.write (lent s.unit.file f) (lent s.unit.tables t) s.unit.generation r v).number
  answer s (Restore t saved) = (I.restore (lent s.unit.tables t) s.unit.generation saved).number
  answer s (Read f) = (I.cached_read (lent s.unit.file f) s.unit.cache).number
  answer s (HandOver f t ct b) =
      (I.hand_over (lent s.unit.file f) (lent s.unit.tables t) s.unit.generation s.unit.cache (lent s.copy.block b) (lent s.copy.tables ct) s.copy.generation).number

  unfoldable pub run : State C → List Call → State C
  run s [] = s
  run s (c ∷ cs) = run (step s c) cs
