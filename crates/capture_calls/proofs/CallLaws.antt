-- A kind 2 body makes one call, its hand-over. And a capture makes far fewer calls than 2^64: a body makes no more than its words and one, so
-- the theorem about lists of calls speaks of every capture. Assumes nothing.
use Rattle.std.specs.Prelude.{ℕ, ◌+◌, ◌≤◌, ◌≡◌, refl, List, [], ◌∷◌, Bool, true, false, cond, length, eqb}
use Rattle.std.proofs.Common.{arith, length-take}
use Rattle.capture_check.specs.Contents.{Body, words_in}
use Rattle.capture_calls.specs.Capture.{pair_calls, hand_over_call, restore_call, body_calls}

-- "kind 2 first hands over, even with no fragment": one call, whatever its words are
pub kind_2_hands_over : (ws : List ℕ) → body_calls 2 ws ≡ hand_over_call ∷ []
unfolding body_calls
kind_2_hands_over ws = refl

pairs_few : (ws : List ℕ) → length (pair_calls ws) ≤ length ws
unfolding pair_calls
pairs_few [] = omega arith
pairs_few (r ∷ []) = omega arith
pairs_few (r ∷ v ∷ rest) = omega (arith, pairs_few rest)

pub body_calls_few : (kind : ℕ) (ws : List ℕ) → length (body_calls kind ws) ≤ length ws + 1
unfolding body_calls
body_calls_few kind ws = go (eqb kind 1) (eqb kind 2) (eqb kind 3)
  where
    go : (a b c : Bool) → length (cond a (pair_calls ws) (cond b (hand_over_call ∷ []) (cond c (restore_call ws ∷ []) []))) ≤ length ws + 1
    go true b c = omega (arith, pairs_few ws)
    go false true c = omega arith
    go false false true = omega arith
    go false false false = omega arith

pub words_in_few : (w : List ℕ) (b : Body) → length (words_in w b) ≤ b.size
words_in_few w b = rw length-take (omega arith)
