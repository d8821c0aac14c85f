-- Lists in which a call may be lent a cache whose length it refuses: the unit's cache, being words that the caller lends, is one of "their slices".
-- LentCacheLaws proves demand 3 of them. Definitions only.
use Rattle.std.specs.Prelude.{ℕ, ◌<◌, ◌≤◌, ◌≡◌, List, [], ◌∷◌, length}
use Rattle.unit.specs.CacheWords.{cache_count}
use Rattle.lists.specs.States.{State, unit_state, state, fresh}
use Rattle.lists.specs.Calls.{Call, step}
use Rattle.lists.specs.Calls.Call.{Write, Restore, Read, HandOver}
use Rattle.lists.specs.Claim.{After}
use Rattle.lists.specs.InWords.{in_words}

-- the lengths of a cache that a call refuses
abbrev pub NotCache : ℕ → Type 0
NotCache n = n ≡ cache_count → ⊥

-- a call that takes the cache
abbrev pub TakesCache : Call → Type 0
TakesCache (Write f t r v) = ⊥
TakesCache (Restore t saved) = ⊥
TakesCache (Read f) = Unit {0}
TakesCache (HandOver f t ct b) = Unit {0}

-- a call on the unit's own cache, or one that is lent another in its place
pub data WordCall : Type 0 where
  on_own : Call → WordCall
  on_lent : (c : List ℕ) → NotCache (length c) → (call : Call) → TakesCache call → WordCall

-- the unit with this cache
abbrev pub with_cache : List ℕ → State (List ℕ) → State (List ℕ)
with_cache c s = state (unit_state s.unit.file s.unit.tables s.unit.generation c) s.copy

-- "the next call then gets what stood before"
unfoldable pub word_step : State (List ℕ) → WordCall → State (List ℕ)
word_step s (on_own call) = step in_words s call
word_step s (on_lent c h call t) = with_cache s.unit.cache (step in_words (with_cache c s) call)

unfoldable pub word_run : State (List ℕ) → List WordCall → State (List ℕ)
word_run s [] = s
word_run s (c ∷ cs) = word_run (word_step s c) cs

-- the calls on the unit's own cache: any other is refused, so the plain machine has no part in it
unfoldable pub owns : List WordCall → List Call
owns [] = []
owns (on_own call ∷ cs) = call ∷ owns cs
owns (on_lent c h call t ∷ cs) = owns cs

-- Demand 3 of such lists.
unfoldable pub Demand3Lent : Type 0
Demand3Lent =
    (n : ℕ) → 474 ≤ n → (calls : List WordCall) → length calls < 0x10000000000000000 → After in_words n (owns calls) (word_run (fresh in_words.empty_cache n) calls)
