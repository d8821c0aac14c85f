use Rattle.std.proofs.Common.{◌≡◌, ◌+◌, ◌-◌, ◌*◌, ◌/◌, ◌≤◌, length, drop}
use Rattle.printing.specs.Steps.{puts, so_far}
use Rattle.capture_lines.specs.Lines.{fragment_lines}
use Rattle.capture_lines.specs.Steps.{block_shades}
use Rattle.capture_lines.proofs.print_fragments.Given as goal

abbrev pub invariant-loop-fragment : goal.invariant-loop-fragment
invariant-loop-fragment l =
    record {
      same_reference : l.lines.bytes.ghost_name ≡ l.initial.lines.bytes.ghost_name;
      same_length : length l.lines.bytes.now ≡ length l.initial.lines.bytes.now;
      within : l.lines.len + 32 * (length l.fragments / 23 - l.fragment-index) ≤ l.initial.lines.len + 32 * (length l.fragments / 23);
      due : puts (so_far l.lines) (fragment_lines (block_shades l.block l.tables) (length l.fragments / 23 - l.fragment-index) (drop (23 * l.fragment-index) l.fragments)) ≡ puts (so_far l.initial.lines) (fragment_lines (block_shades l.block l.tables) (length l.fragments / 23) l.fragments);
    }
