-- Demand 3 holds of our implementation, by induction over the list with a lemma for each kind of call: after an accepted hand-over the copy has the
-- block of the machine's registers and the machine's entries. Assumes nothing.
use Rattle.std.specs.Prelude.{ℕ, zero, suc, ◌+◌, ◌<◌, ◌≡◌, Bool, true, false, cond, length, ltb, leb, eqb}
use Rattle.std.proofs.Common.{arith, add-zero, add-suc, suc-add, sym, ap, ◌∙◌}
use mathlib.Core.List.{List, [], ◌∷◌}
use Rattle.refusals.specs.Refusals.{file_refusal, tables_refusal, register_refusal, saved_refusal, block_refusal, ◌else◌}
use Rattle.unit.specs.declared.Cache.{Cache}
use Rattle.unit.specs.Unit.{fresh_cache}
use Rattle.lists.specs.Ours.{ours}
use Rattle.lists.specs.States.{State, fresh}
use Rattle.lists.specs.Calls.{Call, step, run, answer}
use Rattle.lists.specs.Calls.Call.{Write, Restore, Read, HandOver}
use Rattle.lists.specs.Plain.{accepts, Machine, plain_step, plain_run, plain}
use Rattle.lists.specs.Claim.{HandsOver, EndsHandedOver, Demand3, Answered, Answers}
use Rattle.lists.specs.Invariant.{Inv, Shows}
use Rattle.lists.specs.InvariantLaws.{fresh_holds}
use Rattle.lists.specs.ShadesLaws.{block_shades_lem}
use Rattle.lists.proofs.WriteCallLaws.{writes, accepts_write, write_answer}
use Rattle.lists.proofs.RestoreCallLaws.{restores, accepts_restore, restore_answer}
use Rattle.lists.proofs.ReadCallLaws.{reads, accepts_read, read_answer}
use Rattle.lists.proofs.HandOverCallLaws.{hand_overs_lem, accepts_hand_over, hand_over_answer}

module _ (n : ℕ) where
  -- one call
  module _ {k : ℕ} {s : State Cache} {m : Machine} (i : Inv n k s m) (few : k < 0xFFFFFFFFFFFFFFFF) where
    steps : (c : Call) → Inv n (suc k) (step ours s c) (plain_step n m c)
    steps (Write f t r v) = writes i few f t r v
    steps (Restore t saved) = restores i few t saved
    steps (Read f) = reads i f
    steps (HandOver f t ct b) = (hand_overs_lem i f t ct b).0

    shows : (c : Call) → HandsOver n c → Shows (step ours s c).copy (plain_step n m c)
    unfolding HandsOver
    shows (Write f t r v) e = absurd e
    shows (Restore t saved) e = absurd e
    shows (Read f) e = absurd e
    shows (HandOver f t ct b) e = (hand_overs_lem i f t ct b).1 e

  -- every list
  runs : (cs : List Call) {k : ℕ} {s : State Cache} {m : Machine} → Inv n k s m → k + length cs < 0x10000000000000000 → Inv n (k + length cs) (run ours s cs) (plain_run n m cs)
  unfolding run plain_run
  runs [] {k} i few = rw (add-zero k) i
  runs (c ∷ cs) {k} i few =
      rw (add-suc k (length cs), ← (suc-add k (length cs))) (runs cs (steps i (omega arith) c) (omega arith))

  ends : (cs : List Call) {k : ℕ} {s : State Cache} {m : Machine} → Inv n k s m → k + length cs < 0x10000000000000000 → EndsHandedOver n cs → Shows (run ours s cs).copy (plain_run n m cs)
  unfolding run plain_run EndsHandedOver
  ends [] i few e = absurd e
  ends (c ∷ []) i few e = shows i (omega arith) c e
  ends (c ∷ d ∷ cs) i few e = ends (d ∷ cs) (steps i (omega arith) c) (omega arith) e

pub every_list_shades_alike : Demand3 ours
unfolding Demand3
every_list_shades_alike n big calls few =
    record {
      same = after.agree;
      shades =
          λ end fragment answer hf ha.
          let h = ends n calls (fresh_holds n big) (omega arith) end in
          rw (h.block, h.tables)
          (block_shades_lem (plain n calls).registers (plain n calls).entries fragment answer (ap length (sym after.unit.entries) ∙ after.unit.tables_length) hf ha);
    }
  where
    after : Inv n (0 + length calls) (run ours (fresh fresh_cache n) calls) (plain n calls)
    after = runs n calls (fresh_holds n big) (omega arith)

-- a refusal by a length or a register is neither 4 nor 7
abbrev Neither : ℕ → Type 0
Neither q = (q ≡ 4 → ⊥) × (q ≡ 7 → ⊥)

neither_test : (b : Bool) (k : ℕ) → Neither k → Neither (cond b 0 k)
neither_test true k h = (λ e. omega arith, λ e. omega arith)
neither_test false k h = h

neither_else : (a b : ℕ) → Neither a → Neither b → Neither (a else b)
neither_else zero b p q = q
neither_else (suc a) b p q = p

neither_file : (n : ℕ) → Neither (file_refusal n)
unfolding file_refusal
neither_file n = neither_test (leb 474 n) 1 (λ e. omega arith, λ e. omega arith)

neither_tables : (n : ℕ) → Neither (tables_refusal n)
unfolding tables_refusal
neither_tables n = neither_test (eqb n 12288) 2 (λ e. omega arith, λ e. omega arith)

neither_register : (n : ℕ) → Neither (register_refusal n)
unfolding register_refusal
neither_register n = neither_test (ltb n 474) 3 (λ e. omega arith, λ e. omega arith)

neither_saved : (n : ℕ) → Neither (saved_refusal n)
unfolding saved_refusal
neither_saved n = neither_test (eqb n 12288) 5 (λ e. omega arith, λ e. omega arith)

neither_block : (n : ℕ) → Neither (block_refusal n)
unfolding block_refusal
neither_block n = neither_test (eqb n 328) 6 (λ e. omega arith, λ e. omega arith)

-- a call that answers with such a refusal
by_refusal : (n : ℕ) (c : Call) (number q : ℕ) → number ≡ q → eqb q 0 ≡ accepts n c → Neither q → Answered n c number
by_refusal n c number q e a h =
    record { accepted = ap (λ (x : ℕ). eqb x 0) e ∙ a; not_4 = λ p. h.0 (sym e ∙ p); not_7 = λ p. h.1 (sym e ∙ p) }

module _ {n k : ℕ} {s : State Cache} {m : Machine} (i : Inv n k s m) (few : k < 0xFFFFFFFFFFFFFFFF) where
  answers : (c : Call) → Answered n c (answer ours s c)
  answers (Write f t r v) =
      by_refusal n (Write f t r v) _ _ (write_answer i few f t r v) (accepts_write i few f t r v)
      (neither_else (file_refusal _) _ (neither_file _) (neither_else (tables_refusal _) _ (neither_tables _) (neither_register r)))
  answers (Restore t saved) =
      by_refusal n (Restore t saved) _ _ (restore_answer i few t saved) (accepts_restore i few t saved)
      (neither_else (tables_refusal _) _ (neither_tables _) (neither_saved (length saved)))
  answers (Read f) =
      by_refusal n (Read f) _ _ (read_answer i f) (accepts_read i f) (neither_file _)
  answers (HandOver f t ct b) =
      by_refusal n (HandOver f t ct b) _ _ (hand_over_answer i f t ct b) (accepts_hand_over i f t ct b)
      (neither_else (file_refusal _) _ (neither_file _) (neither_else (tables_refusal _) _ (neither_tables _) (neither_else (tables_refusal _) _ (neither_tables _) (neither_block _))))

pub every_answer_is_the_machines : Answers ours
unfolding Answers
every_answer_is_the_machines n big calls c few =
    answers (runs n calls (fresh_holds n big) (omega arith)) (omega arith) c
