-- A turn of the loop over bodies: a body that was run takes what is still to come to the next. Assumes nothing.
use Rattle.std.proofs.Common.{ℕ, ◌≡◌, List, ◌∷◌, sym, ◌∙◌}
use Rattle.unit.specs.declared.Cache.{Cache}
use Rattle.lists.specs.States.{State}
use Rattle.lists.specs.Calls.{run}
use Rattle.lists.specs.Ours.{ours}
use Rattle.printing.specs.declared.Lines.{Lines}
use Rattle.printing.specs.Steps.{Out, puts, so_far, Adds}
use Rattle.printing.specs.AddedLaws.{added_due}
use Rattle.capture_check.specs.Contents.{Body, words_in}
use Rattle.capture_calls.specs.Capture.{body_calls}
use Rattle.capture_calls.specs.Steps.{after_body, after_lines, calls_of, copy_prints}
use Rattle.capture_calls.specs.RunLaws.{run_append}

-- a body and those after it; its words are ws
module _ (w : List ℕ) (b : Body) (bs : List Body) (ws : List ℕ) (p : ws ≡ words_in w b) (s s' : State Cache) (e : s' ≡ after_body s b.kind ws) where
  pub calls_turn : (all : State Cache) → run ours s (calls_of w (b ∷ bs)) ≡ all → run ours s' (calls_of w bs) ≡ all
  unfolding calls_of after_body
  calls_turn all a = rw (e, p) (sym (run_append ours s (body_calls b.kind (words_in w b)) (calls_of w bs)) ∙ a)

  pub prints_turn : (l l' : Lines) (all : Out) → Adds l l' (after_lines (after_body s b.kind ws) b.kind ws) → puts (so_far l) (copy_prints w (b ∷ bs) s) ≡ all → puts (so_far l') (copy_prints w bs s') ≡ all
  unfolding copy_prints
  prints_turn l l' all d a =
      added_due l l' (after_lines (after_body s b.kind ws) b.kind ws) d (copy_prints w bs s') all (rw (e, p) a)
