-- A turn of the loop over pairs: a write that was made takes what is still to come to the next pair. Assumes nothing.
use Rattle.std.proofs.Common.{ℕ, ◌+◌, ◌*◌, ◌/◌, ◌≤◌, ◌≡◌, List, [], ◌∷◌, length, get_or, drop, length-drop, refl, arith}
use Rattle.unit.specs.declared.Cache.{Cache}
use Rattle.lists.specs.States.{State}
use Rattle.lists.specs.Calls.{step, run}
use Rattle.lists.specs.Calls.Call.{Write}
use Rattle.lists.specs.Calls.Lent.{own}
use Rattle.lists.specs.Ours.{ours}
use Rattle.sources.specs.PieceLaws.{drop_two}
use Rattle.capture_calls.specs.Capture.{pair_calls}

pub pairs_turn : (s s' all : State Cache) (l : List ℕ) (i : ℕ) → 2 * i + 2 ≤ length l → s' ≡ step ours s (Write own own (get_or l (2 * i) 0) (get_or l (2 * i + 1) 0)) → run ours s (pair_calls (drop (2 * i) l)) ≡ all → run ours s' (pair_calls (drop (2 * (i + 1)) l)) ≡ all
unfolding run pair_calls
pairs_turn s s' all l i h e a = rw e (rw (drop_two l i h) at a)

pairs_short : (s : State Cache) (l : List ℕ) → length l ≤ 1 → run ours s (pair_calls l) ≡ s
unfolding run pair_calls
pairs_short s [] h = refl
pairs_short s (r ∷ []) h = refl
pairs_short s (r ∷ v ∷ l) h = absurd (omega arith)

pub pairs_none : (s : State Cache) (l : List ℕ) (i : ℕ) → length l / 2 ≤ i → run ours s (pair_calls (drop (2 * i) l)) ≡ s
pairs_none s l i h = pairs_short s (drop (2 * i) l) (rw length-drop (omega arith))
