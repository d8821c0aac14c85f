use Rattle.std.proofs.Common.{◌≡◌, ◌+◌, ◌-◌, ◌*◌, ◌≤◌, length, drop}
use Rattle.printing.specs.Steps.{puts, so_far, Bytes}
use Rattle.printing.specs.Printing.{line}
use Rattle.printing.proofs.Lines.put_line.Given as goal

abbrev pub invariant-loop-i : goal.invariant-loop-i
invariant-loop-i l =
    record {
      eight : length l.number-items ≡ 8;
      bytes : Bytes l.number-items;
      same_reference : l.self.bytes.ghost_name ≡ l.initial.self.bytes.ghost_name;
      same_length : length l.self.bytes.now ≡ length l.initial.self.bytes.now;
      within : l.self.len + 4 * (8 - l.i) ≤ l.initial.self.len + 32;
      due : puts (so_far l.self) (line (drop l.i l.number-items)) ≡ puts (so_far l.initial.self) (line l.number-items);
    }
