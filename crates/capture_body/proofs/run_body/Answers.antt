-- `capture_body::run_body` meets its contract. Each arm makes the calls of its kind, and only a kind 2 body prints, from the copy that its own
-- hand-over left.
use Rattle.std.proofs.Common.{arith, sym, ap, refl, ◌∙◌}
use Rattle.unit.specs.declared.Cache.{Cache}
use Rattle.lists.specs.States.{State}
use Rattle.capture_check.specs.KindsLaws.{kind_is, kind_none}
use Rattle.capture_calls.specs.Steps.{after_lines}
use Rattle.capture_body.proofs.ByKind.{after_writes, after_hand_over, after_restore, after_other, prints_lines, prints_nothing}
use Rattle.capture_body.proofs.run_body.Goals as goal

pub returns-in-Some-Writes : goal.returns-in-Some-Writes
returns-in-Some-Writes c =
    let a = c.args in
    let k = kind_is a.kind _ (sym (rw c.in-Some-Writes.field-0-is at c.in-Some-Writes.ensures)) in
    record {
      state = after_writes a.file.now a.tables.now a.block.now a.copied.now a.held a.kind a.body.now k _ _ _ c.write_pairs-generation.ensures;
      text = prints_nothing _ a.kind a.body.now a.lines.now (rw k refl);
      room = omega arith;
    }

pub returns-in-Some-Fragments : goal.returns-in-Some-Fragments
returns-in-Some-Fragments c =
    let a = c.args in
    let k = kind_is a.kind _ (sym (rw c.in-Some-Fragments.field-0-is at c.in-Some-Fragments.ensures)) in
    let p = c.print_fragments in
    let e = after_hand_over a.file.now a.tables.now a.block.now a.copied.now a.held a.kind a.body.now k _ _ _ c.hand_over-held.ensures in
    record {
      state = e;
      text = rw (← prints_lines _ a.kind a.body.now k ∙ ap (λ (x : State Cache). after_lines x a.kind a.body.now) e) p.ensures.text;
      room = p.ensures.room;
    }

pub returns-in-Some-Restore : goal.returns-in-Some-Restore
returns-in-Some-Restore c =
    let a = c.args in
    let k = kind_is a.kind _ (sym (rw c.in-Some-Restore.field-0-is at c.in-Some-Restore.ensures)) in
    record {
      state = after_restore a.file.now a.tables.now a.block.now a.copied.now a.held a.kind a.body.now k _ _ c.restore_body-generation.ensures;
      text = prints_nothing _ a.kind a.body.now a.lines.now (rw k refl);
      room = omega arith;
    }

pub returns-in-None : goal.returns-in-None
returns-in-None c =
    let a = c.args in
    let none = kind_none a.kind (sym (rw c.in-None.is at c.from_number.ensures)) in
    record {
      state = after_other a.file.now a.tables.now a.block.now a.copied.now a.held a.kind a.body.now none.0 none.1 none.2;
      text = prints_nothing _ a.kind a.body.now a.lines.now none.1;
      room = omega arith;
    }
