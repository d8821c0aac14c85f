-- A restore keeps the invariant. Refused, neither unit nor machine changes; accepted, both hold the saved words, and the generation passes the
-- copy's. Assumes nothing.
use Prim.Native.Nat.{ℕ, zero, suc, ◌<◌}
use Rattle.std.specs.Prelude.{◌≡◌, refl, List, Bool, cond, ◌&&◌, length}
use Rattle.std.proofs.Math.Path.{ap, subst}
use Rattle.std.proofs.Common.{◌∙◌, inr}
use Rattle.std.proofs.Math.Dec.{eqb, eqb-suc-zero}
use Rattle.tables.specs.Tables.{Restored, restore_refusal, restore_if}
use Rattle.tables.proofs.RestoreLaws.{restore-number}
use Rattle.tables.specs.RefusalLaws.{restore_lengths, restore_test}
use Rattle.unit.specs.declared.Cache.{Cache}
use Rattle.lists.specs.Ours.{ours}
use Rattle.lists.specs.States.{State, unit_state, state}
use Rattle.lists.specs.Calls.{Lent, NotTables, lent, left, step, answer}
use Rattle.lists.specs.Calls.Call.{Restore}
use Rattle.lists.specs.Calls.Lent.{own}
use Rattle.lists.specs.Plain.{accepts, Machine, machine, does, plain_step}
use Rattle.lists.proofs.LentLaws.{size-lent, left-lent, is_own}
use Rattle.lists.specs.Invariant.{Inv}
use Rattle.lists.specs.InvariantLaws.{stays, moves, not_last}

module _ {n k : ℕ} {s : State Cache} {m : Machine} (i : Inv n k s m) (few : k < 0xFFFFFFFFFFFFFFFF) where
  -- unit and copy after a restore
  abbrev restored_to : Lent NotTables → Restored → State Cache
  restored_to t w =
      state (unit_state s.unit.file (left s.unit.tables t w.tables) w.generation s.unit.cache) s.copy

  -- the unit's refusals by lengths are the machine's
  pub accepts_restore : (t : Lent NotTables) (saved : List ℕ) → eqb (restore_refusal (length (lent s.unit.tables t)) saved) 0 ≡ accepts n (Restore t saved)
  unfolding accepts
  accepts_restore t saved =
      restore_test (length (lent s.unit.tables t)) saved
      ∙ ap (λ (a : ℕ). eqb a 12288 && eqb (length saved) 12288) (size-lent s.unit.tables t i.unit.tables_length)

  pub restores : (t : Lent NotTables) (saved : List ℕ) → Inv n (suc k) (step ours s (Restore t saved)) (plain_step n m (Restore t saved))
  unfolding step plain_step does restore_if
  restores t saved =
      subst (λ (b : Bool). Inv n (suc k) (step ours s (Restore t saved)) (cond b (machine m.registers saved) m)) (accepts_restore t saved)
      (go (restore_refusal (length (lent s.unit.tables t)) saved) refl)
    where
      go : (q : ℕ) → restore_refusal (length (lent s.unit.tables t)) saved ≡ q → Inv n (suc k) (restored_to t (restore_if q (lent s.unit.tables t) s.unit.generation saved)) (cond (eqb q 0) (machine m.registers saved) m)
      go (suc q) e = rw (eqb-suc-zero q, left-lent s.unit.tables t) (stays i)
      go zero e =
          let lengths = restore_lengths (length (lent s.unit.tables t)) saved e in
          let te : t ≡ own = is_own s.unit.tables t (λ p. p lengths.0) in
          rw (te, not_last i few)
          (moves i
          (record {
            file_length = i.unit.file_length;
            registers = i.unit.registers;
            entries = refl;
            tables_length = lengths.1;
            sound = i.unit.sound;
          })
          (inr refl))

  -- what a restore answers
  pub restore_answer : (t : Lent NotTables) (saved : List ℕ) → answer ours s (Restore t saved) ≡ restore_refusal (length (lent s.unit.tables t)) saved
  unfolding answer
  restore_answer t saved =
      restore-number (lent s.unit.tables t) s.unit.generation saved (not_last i few)
