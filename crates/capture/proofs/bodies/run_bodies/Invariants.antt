use Rattle.std.proofs.Common.{ℕ, ◌≡◌, ◌-◌, ◌*◌, ◌/◌, true, length, drop}
use Rattle.lists.specs.Calls.{run}
use Rattle.lists.specs.Ours.{ours}
use Rattle.printing.specs.Steps.{puts, so_far, HasRoom}
use Rattle.capture_check.specs.Contents.{contents, gapless}
use Rattle.capture_check.specs.Steps.{bodies}
use Rattle.capture_body.specs.Steps.{lent_state}
use Rattle.capture_calls.specs.Steps.{calls_of, copy_prints}
use Rattle.capture.proofs.bodies.run_bodies.Given as goal

-- the bodies that are still to come stand from a place `at` to the end of the words
abbrev pub invariant-loop-triple : goal.invariant-loop-triple
invariant-loop-triple l =
    record {
      at : ℕ;
      stand : gapless (bodies (drop l.triple-index l.triple-items)) at (length l.words) ≡ true;
      same_reference : l.lines.bytes.ghost_name ≡ l.initial.lines.bytes.ghost_name;
      room : HasRoom l.lines (32 * ((length l.words - at) / 23));
      calls : run ours (lent_state l.file l.tables l.block l.copied l.held) (calls_of l.words (bodies (drop l.triple-index l.triple-items))) ≡ run ours (lent_state l.initial.file l.initial.tables l.initial.block l.initial.copied l.fn.held) (calls_of l.words (contents l.words));
      due : puts (so_far l.lines) (copy_prints l.words (bodies (drop l.triple-index l.triple-items)) (lent_state l.file l.tables l.block l.copied l.held)) ≡ puts (so_far l.initial.lines) (copy_prints l.words (contents l.words) (lent_state l.initial.file l.initial.tables l.initial.block l.initial.copied l.fn.held));
    }
