-- What a body leaves and prints, by its kind: the calls of a kind 1 body are its writes, a kind 2 body hands over and alone prints, a kind 3
-- body restores. Assumes nothing.
use Rattle.std.proofs.Common.{ℕ, ◌/◌, ◌≡◌, false, List, length, refl, eqb}
use Rattle.unit.specs.declared.Cache.{Cache}
use Rattle.lists.specs.States.{CopyState, State, unit_state, copy_state, state}
use Rattle.lists.specs.Calls.{step, run}
use Rattle.lists.specs.Ours.{ours}
use Rattle.printing.specs.declared.Lines.{Lines}
use Rattle.printing.specs.Steps.{puts, Adds}
use Rattle.capture_lines.specs.Lines.{fragment_lines, body_lines}
use Rattle.capture_lines.specs.Steps.{block_shades}
use Rattle.capture_body.specs.declared.Held.{Held}
use Rattle.capture_calls.specs.Capture.{pair_calls, hand_over_call, restore_call, body_calls}
use Rattle.capture_calls.specs.Steps.{after_body, after_lines}
use Rattle.capture_body.specs.Steps.{lent_state}

abbrev pub held_with : ℕ → Cache → ℕ → Held
held_with g c a = record { generation = g; cache = c; age = a }

module _ (f t b ct : List ℕ) (h : Held) (kind : ℕ) (ws : List ℕ) where
  pub after_writes : kind ≡ 1 → (f' t' : List ℕ) (g : ℕ) → ((c : Cache) (k : CopyState) → state (unit_state f' t' g c) k ≡ run ours (state (unit_state f t h.generation c) k) (pair_calls ws)) → lent_state f' t' b ct (held_with g h.cache h.age) ≡ after_body (lent_state f t b ct h) kind ws
  unfolding after_body body_calls
  after_writes k f' t' g e = rw k (e h.cache (copy_state b ct h.age))

  pub after_hand_over : kind ≡ 2 → (b' ct' : List ℕ) (h' : Held) → lent_state f t b' ct' h' ≡ step ours (lent_state f t b ct h) hand_over_call → lent_state f t b' ct' h' ≡ after_body (lent_state f t b ct h) kind ws
  unfolding after_body body_calls run
  after_hand_over k b' ct' h' e = rw k e

  pub after_restore : kind ≡ 3 → (t' : List ℕ) (g : ℕ) → ((u : List ℕ) (c : Cache) (k : CopyState) → state (unit_state u t' g c) k ≡ step ours (state (unit_state u t h.generation c) k) (restore_call ws)) → lent_state f t' b ct (held_with g h.cache h.age) ≡ after_body (lent_state f t b ct h) kind ws
  unfolding after_body body_calls run
  after_restore k t' g e = rw k (e f h.cache (copy_state b ct h.age))

  pub after_other : eqb kind 1 ≡ false → eqb kind 2 ≡ false → eqb kind 3 ≡ false → lent_state f t b ct h ≡ after_body (lent_state f t b ct h) kind ws
  unfolding after_body body_calls run
  after_other p q r = rw (p, q, r) refl

module _ (s : State Cache) (kind : ℕ) (ws : List ℕ) where
  pub prints_lines : kind ≡ 2 → fragment_lines (block_shades s.copy.block s.copy.tables) (length ws / 23) ws ≡ after_lines s kind ws
  unfolding after_lines body_lines
  prints_lines k = rw k refl

  pub prints_nothing : (l : Lines) → eqb kind 2 ≡ false → Adds l l (after_lines s kind ws)
  unfolding after_lines body_lines puts
  prints_nothing l n = record { same_reference = refl; after = rw n refl }
