-- A cached read keeps the invariant. A sound cache with the file's kept words holds the file's lighting, since decoding looks at nothing else; any
-- other cache is decoded anew. Assumes nothing.
use Prim.Native.Nat.{ℕ, zero, suc, ◌+◌, ◌≤◌}
use Rattle.std.proofs.Common.{arith, sym, ◌∙◌, inl, get_or-take, take-take, lit<, lit≤}
use Rattle.std.specs.Prelude.{◌≡◌, List, [], ◌∷◌, Bool, true, false, cond, length, take, drop, eqb, Option, None, Some, unwrap_or}
use Rattle.std.proofs.Math.Path.{refl, ap, subst}
use Rattle.std.proofs.lemmas.Bool.{false≢true}
use Rattle.std.proofs.Math.Dec.{leb, eqb-suc-zero}
use Rattle.refusals.specs.Refusals.{file_refusal}
use Rattle.tables.specs.RefusalLaws.{passed_test}
use Rattle.decoding.specs.Read.{read, registers_read}
use Rattle.decoding.proofs.DecodeLaws.{read_same}
use Rattle.decoding.proofs.FileLaws.{kept_first}
use Rattle.unit.specs.declared.Cache.{Cache}
use Rattle.decoding.specs.ComparingLaws.{same_equal}
use Rattle.unit.specs.HandOverLaws.{long_file}
use Rattle.unit.specs.Unit.{keeps, current, read_anew, refreshed, cached_read_if}
use Rattle.lists.specs.Ours.{ours}
use Rattle.lists.specs.States.{State, unit_state, state}
use Rattle.lists.specs.Calls.{Lent, ShortFile, lent, step, answer}
use Rattle.lists.specs.Calls.Call.{Read}
use Rattle.lists.specs.Calls.Lent.{own}
use Rattle.lists.specs.Plain.{accepts, Machine, does, plain_step}
use Rattle.lists.proofs.LentLaws.{size-lent, is_own}
use Rattle.lists.specs.Invariant.{Sound, Inv}
use Rattle.lists.specs.InvariantLaws.{stays, moves}

kept_words : (o : Option (List ℕ)) (ws : List ℕ) → keeps o ws ≡ true → o ≡ Some ws
unfolding keeps
kept_words None ws e = absurd (false≢true e)
kept_words (Some kept) ws e = ap (λ (l : List ℕ). Some l) (same_equal kept ws e)

-- a read of a sound cache gives the file's lighting, and leaves the cache sound
pub read_sound : (f : List ℕ) (c : Cache) → Sound c → ((refreshed f c).decoded ≡ read f) × Sound (refreshed f c)
unfolding refreshed current read_anew
read_sound f c g = go (keeps c.kept (registers_read f)) refl
  where
    made : Cache
    made = record { kept = Some (registers_read f); decoded = read f }

    go : (b : Bool) → keeps c.kept (registers_read f) ≡ b → ((cond b c made).decoded ≡ read f) × Sound (cond b c made)
    go true e = (sym (g f (kept_words c.kept (registers_read f) e)), g)
    go false e = (refl, λ r p. read_same r f (sym (ap (λ (o : Option (List ℕ)). unwrap_or o []) p)))

module _ {n k : ℕ} {s : State Cache} {m : Machine} (i : Inv n k s m) where
  -- the file's lighting is the machine's
  pub decodes : (refreshed s.unit.file s.unit.cache).decoded ≡ read m.registers
  decodes =
      (read_sound s.unit.file s.unit.cache i.unit.sound).0
      ∙ read_same s.unit.file (take 474 s.unit.file) (sym (kept_first s.unit.file))
      ∙ ap read i.unit.registers

  -- the unit's refusal by its length is the machine's
  pub accepts_read : (f : Lent ShortFile) → eqb (file_refusal (length (lent s.unit.file f))) 0 ≡ accepts n (Read f)
  unfolding accepts file_refusal
  accepts_read f =
      passed_test (leb 474 (length (lent s.unit.file f))) 0
      ∙ ap (λ (a : ℕ). leb 474 a) (size-lent s.unit.file f i.unit.file_length)

  -- unit and copy with another cache
  abbrev cached_with : Cache → State Cache
  cached_with c = state (unit_state s.unit.file s.unit.tables s.unit.generation c) s.copy

  -- the unit with the cache that a read of its own file leaves
  pub reads_own : Inv n (suc k) (cached_with (refreshed s.unit.file s.unit.cache)) m
  reads_own =
      moves i
      (record {
        file_length = i.unit.file_length;
        registers = i.unit.registers;
        entries = i.unit.entries;
        tables_length = i.unit.tables_length;
        sound = (read_sound s.unit.file s.unit.cache i.unit.sound).1;
      })
      (inl (refl, refl))

  pub reads : (f : Lent ShortFile) → Inv n (suc k) (step ours s (Read f)) (plain_step n m (Read f))
  unfolding step plain_step does cached_read_if
  reads f =
      subst (λ (b : Bool). Inv n (suc k) (step ours s (Read f)) (cond b m m)) (accepts_read f)
      (go (file_refusal (length (lent s.unit.file f))) refl)
    where
      go : (q : ℕ) → file_refusal (length (lent s.unit.file f)) ≡ q → Inv n (suc k) (cached_with (cached_read_if q (lent s.unit.file f) s.unit.cache).cache) (cond (eqb q 0) m m)
      go (suc q) e = rw (eqb-suc-zero q) (stays i)
      go zero e =
          let fe : f ≡ own = is_own s.unit.file f (λ p. omega (arith, long_file (length (lent s.unit.file f)) e)) in
          rw fe reads_own

  -- what a cached read answers
  pub read_answer : (f : Lent ShortFile) → answer ours s (Read f) ≡ file_refusal (length (lent s.unit.file f))
  unfolding answer cached_read_if
  read_answer f = go (file_refusal (length (lent s.unit.file f)))
    where
      go : (q : ℕ) → (cached_read_if q (lent s.unit.file f) s.unit.cache).number ≡ q
      go zero = refl
      go (suc q) = refl
