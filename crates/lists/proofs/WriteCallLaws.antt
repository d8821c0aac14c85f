-- A register write keeps the invariant. Refused, neither unit nor machine changes; accepted, both take the word into the same register, or put the
-- same entry where 1C5, which they share, names it. Assumes nothing.
use Prim.Native.Nat.{ℕ, zero, suc, ◌<◌}
use Rattle.std.proofs.Common.{arith, sym, ap, ◌∙◌, inl, inr, length-set, get_or-take, lit<}
use Rattle.std.specs.Prelude.{◌≡◌, List, Bool, true, false, cond, ◌&&◌, length, set, eqb}
use Rattle.std.proofs.Math.Path.{refl, ap₂, subst}
use Rattle.std.proofs.Math.Seq.{take-set-lt}
use Rattle.std.proofs.Math.Dec.{ltb, leb, eqb-suc-zero}
use Rattle.tables.specs.Tables.{is_data, index, moved, put, changes, raised, Wrote, write_refusal, write_if, write}
use Rattle.tables.proofs.UploadLaws.{length-put, put_same}
use Rattle.tables.proofs.WriteLaws.{write_data, write_register, write-number}
use Rattle.tables.specs.RefusalLaws.{write_lengths, write_test}
use Rattle.unit.specs.declared.Cache.{Cache}
use Rattle.lists.specs.Ours.{ours}
use Rattle.lists.specs.States.{State, unit_state, state}
use Rattle.lists.specs.Calls.{Lent, ShortFile, NotTables, lent, left, step, answer}
use Rattle.lists.specs.Calls.Call.{Write}
use Rattle.lists.specs.Calls.Lent.{own}
use Rattle.lists.specs.Plain.{accepts, Machine, machine, plain_write, does, plain_step}
use Rattle.lists.proofs.LentLaws.{size-lent, left-lent, is_own}
use Rattle.lists.specs.Invariant.{Rises, Matches, Inv}
use Rattle.lists.specs.InvariantLaws.{stays, moves, not_last}

module _ {n k : ℕ} {s : State Cache} {m : Machine} (i : Inv n k s m) (few : k < 0xFFFFFFFFFFFFFFFF) where
  -- the word of 1C5 is the machine's
  same_index : index s.unit.file ≡ index m.registers
  same_index =
      sym (get_or-take 474 s.unit.file 0x1C5 0 (lit< tt)) ∙ ap (λ (l : List ℕ). index l) i.unit.registers

  -- a register takes a word
  stores : (t e : List ℕ) (g r v : ℕ) → t ≡ e → length t ≡ 12288 → r < 474 → Matches n (unit_state (set s.unit.file r v) t g s.unit.cache) (machine (set m.registers r v) e)
  stores t e g r v same long low =
      record {
        file_length = length-set s.unit.file r v ∙ i.unit.file_length;
        registers = take-set-lt 474 s.unit.file r v low ∙ ap (λ (l : List ℕ). set l r v) i.unit.registers;
        entries = same;
        tables_length = long;
        sound = i.unit.sound;
      }

  -- the generation after an upload
  rises : (f t : List ℕ) (j v : ℕ) → t ≡ s.unit.tables → Rises s.unit (unit_state f (put t j v) (raised (changes t j v) s.unit.generation) s.unit.cache)
  rises f t j v e = go (changes t j v) refl
    where
      go : (b : Bool) → changes t j v ≡ b → Rises s.unit (unit_state f (put t j v) (raised b s.unit.generation) s.unit.cache)
      go true h = inr refl
      go false h = inl (refl, put_same t j v h ∙ e)

  -- unit and copy after a write
  abbrev written : Lent ShortFile → Lent NotTables → Wrote → State Cache
  written f t w =
      state (unit_state (left s.unit.file f w.file) (left s.unit.tables t w.tables) w.generation s.unit.cache) s.copy

  -- the unit's refusals by lengths and register are the machine's
  pub accepts_write : (f : Lent ShortFile) (t : Lent NotTables) (r v : ℕ) → eqb (write_refusal (length (lent s.unit.file f)) (length (lent s.unit.tables t)) r) 0 ≡ accepts n (Write f t r v)
  unfolding accepts
  accepts_write f t r v =
      write_test (length (lent s.unit.file f)) (length (lent s.unit.tables t)) r
      ∙ ap₂ (λ (a b : ℕ). leb 474 a && (eqb b 12288 && ltb r 474)) (size-lent s.unit.file f i.unit.file_length) (size-lent s.unit.tables t i.unit.tables_length)

  -- accepted, on the unit's own slices
  done : (r v : ℕ) → write_refusal (length s.unit.file) (length s.unit.tables) r ≡ 0 → Inv n (suc k) (written own own (write s.unit.file s.unit.tables s.unit.generation r v)) (plain_write m r v)
  unfolding plain_write
  done r v e = go (is_data r) refl
    where
      j : ℕ
      j = index m.registers

      go : (b : Bool) → is_data r ≡ b → Inv n (suc k) (written own own (write s.unit.file s.unit.tables s.unit.generation r v)) (cond b (machine (set m.registers 0x1C5 (moved j)) (put m.entries j v)) (machine (set m.registers r v) m.entries))
      go true d =
          rw (write_data s.unit.file s.unit.tables s.unit.generation r v e d (not_last i few), same_index)
          (moves i
          (stores (put s.unit.tables j v) (put m.entries j v) (raised (changes s.unit.tables j v) s.unit.generation) 0x1C5 (moved j) (ap (λ (l : List ℕ). put l j v) i.unit.entries) (length-put s.unit.tables j v ∙ i.unit.tables_length) (lit< tt))
          (rises (set s.unit.file 0x1C5 (moved j)) s.unit.tables j v refl))
      go false d =
          rw (write_register s.unit.file s.unit.tables s.unit.generation r v e d)
          (moves i
          (stores s.unit.tables m.entries s.unit.generation r v i.unit.entries i.unit.tables_length (write_lengths (length s.unit.file) (length s.unit.tables) r e).2)
          (inl (refl, refl)))

  pub writes : (f : Lent ShortFile) (t : Lent NotTables) (r v : ℕ) → Inv n (suc k) (step ours s (Write f t r v)) (plain_step n m (Write f t r v))
  unfolding step plain_step does write_if
  writes f t r v =
      subst (λ (b : Bool). Inv n (suc k) (step ours s (Write f t r v)) (cond b (plain_write m r v) m)) (accepts_write f t r v)
      (go (write_refusal (length (lent s.unit.file f)) (length (lent s.unit.tables t)) r) refl)
    where
      go : (q : ℕ) → write_refusal (length (lent s.unit.file f)) (length (lent s.unit.tables t)) r ≡ q → Inv n (suc k) (written f t (write_if q (lent s.unit.file f) (lent s.unit.tables t) s.unit.generation r v)) (cond (eqb q 0) (plain_write m r v) m)
      go (suc q) e = rw (eqb-suc-zero q, left-lent s.unit.file f, left-lent s.unit.tables t) (stays i)
      go zero e =
          let lengths = write_lengths (length (lent s.unit.file f)) (length (lent s.unit.tables t)) r e in
          let fe : f ≡ own = is_own s.unit.file f (λ p. omega (arith, lengths.0)) in
          let te : t ≡ own = is_own s.unit.tables t (λ p. p lengths.1) in
          let e' : write_refusal (length s.unit.file) (length s.unit.tables) r ≡ 0 = rw (fe, te) at e in
          rw (fe, te) (rw e' at (done r v e'))

  -- what a write answers
  pub write_answer : (f : Lent ShortFile) (t : Lent NotTables) (r v : ℕ) → answer ours s (Write f t r v) ≡ write_refusal (length (lent s.unit.file f)) (length (lent s.unit.tables t)) r
  unfolding answer
  write_answer f t r v =
      write-number (lent s.unit.file f) (lent s.unit.tables t) s.unit.generation r v (not_last i few)
