-- A hand-over keeps the invariant, and accepted leaves in the copy the block of the machine's registers and the machine's entries: the tables are
-- taken where the generations differ, and where they do not they are equal already. Assumes nothing.
use Prim.Native.Nat.{ℕ, zero, suc}
use Rattle.std.proofs.Common.{arith, le_refl, ap, ◌∙◌}
use Rattle.std.specs.Prelude.{◌≡◌, List, Bool, length}
use Rattle.std.proofs.Math.Path.{refl, subst}
use Rattle.std.proofs.Math.Bool.{true, false, cond}
use Rattle.std.proofs.lemmas.Bool.{false≢true}
use Rattle.std.proofs.Math.Dec.{eqb, eqb-suc-zero}
use borrow.Author.Tests.{eqb-true}
use Rattle.block.specs.Block.{packed_reading}
use Rattle.unit.specs.declared.Cache.{Cache}
use Rattle.unit.specs.Unit.{refreshed, Handed, handed, hand_over_refusal, packable, taken, hand_over_read, hand_over_if}
use Rattle.unit.specs.HandOverLaws.{hand_over_lengths, hand_over_test}
use Rattle.unit.specs.DecodedLaws.{decoded_packable, packed_length}
use Rattle.lists.specs.Ours.{ours}
use Rattle.lists.specs.States.{State, unit_state, copy_state, state}
use Rattle.lists.specs.Calls.{Lent, ShortFile, NotTables, NotBlock, lent, left, step, answer}
use Rattle.lists.specs.Calls.Call.{HandOver}
use Rattle.lists.specs.Calls.Lent.{own}
use Rattle.lists.specs.Plain.{accepts, Machine, does, plain_step}
use Rattle.lists.proofs.LentLaws.{size-lent, left-lent, is_own}
use Rattle.lists.specs.Invariant.{Inv, Shows}
use Rattle.lists.specs.InvariantLaws.{stays}
use Rattle.lists.proofs.ReadCallLaws.{decodes, reads_own}

-- what is taken answers 0
taken-number : (c : Cache) (t : List ℕ) (g : ℕ) (ct : List ℕ) (cg : ℕ) → (taken c t g ct cg).number ≡ 0
unfolding taken
taken-number c t g ct cg = go (eqb g cg)
  where
    go : (b : Bool) → (cond b (handed 0 c (packed_reading c.decoded) ct cg) (handed 0 c (packed_reading c.decoded) t g)).number ≡ 0
    go true = refl
    go false = refl

module _ {n k : ℕ} {s : State Cache} {m : Machine} (i : Inv n k s m) where
  -- 7 is not met
  packs : packable (refreshed s.unit.file s.unit.cache).decoded ≡ true
  packs = rw (decodes i) (decoded_packable m.registers)

  -- the copy's tables and generation after a hand-over are the unit's
  takes : (c : Cache) → taken c s.unit.tables s.unit.generation s.copy.tables s.copy.generation ≡ handed 0 c (packed_reading c.decoded) s.unit.tables s.unit.generation
  unfolding taken
  takes c = go (eqb s.unit.generation s.copy.generation) refl
    where
      go : (b : Bool) → eqb s.unit.generation s.copy.generation ≡ b → cond b (handed 0 c (packed_reading c.decoded) s.copy.tables s.copy.generation) (handed 0 c (packed_reading c.decoded) s.unit.tables s.unit.generation) ≡ handed 0 c (packed_reading c.decoded) s.unit.tables s.unit.generation
      go true e =
          let g : s.unit.generation ≡ s.copy.generation = eqb-true _ _ e in
          rw (i.agree g, g) refl
      go false e = refl

  -- the unit's refusals by lengths are the machine's
  pub accepts_hand_over : (f : Lent ShortFile) (t ct : Lent NotTables) (b : Lent NotBlock) → eqb (hand_over_refusal (length (lent s.unit.file f)) (length (lent s.unit.tables t)) (length (lent s.copy.tables ct)) (length (lent s.copy.block b))) 0 ≡ accepts n (HandOver f t ct b)
  unfolding accepts
  accepts_hand_over f t ct b =
      hand_over_test (length (lent s.unit.file f)) (length (lent s.unit.tables t)) (length (lent s.copy.tables ct)) (length (lent s.copy.block b))
      ∙ cc (size-lent s.unit.file f i.unit.file_length, size-lent s.unit.tables t i.unit.tables_length, size-lent s.copy.tables ct i.copy_length, size-lent s.copy.block b i.block_length)

  -- unit and copy after a hand-over
  abbrev handed_to : Lent NotTables → Lent NotBlock → Handed Cache → State Cache
  handed_to ct b w =
      state (unit_state s.unit.file s.unit.tables s.unit.generation w.cache) (copy_state (left s.copy.block b w.block) (left s.copy.tables ct w.tables) w.generation)

  -- accepted, on unit's and copy's own slices
  done : Inv n (suc k) (handed_to own own (handed 0 (refreshed s.unit.file s.unit.cache) (packed_reading (refreshed s.unit.file s.unit.cache).decoded) s.unit.tables s.unit.generation)) m
  done =
      record {
        unit = (reads_own i).unit;
        block_length = packed_length (refreshed s.unit.file s.unit.cache).decoded;
        copy_length = i.unit.tables_length;
        behind = le_refl _;
        count = (reads_own i).count;
        agree = λ _. refl;
      }

  pub hand_overs_lem : (f : Lent ShortFile) (t ct : Lent NotTables) (b : Lent NotBlock) → Inv n (suc k) (step ours s (HandOver f t ct b)) (plain_step n m (HandOver f t ct b)) × (accepts n (HandOver f t ct b) ≡ true → Shows (step ours s (HandOver f t ct b)).copy (plain_step n m (HandOver f t ct b)))
  unfolding step plain_step does hand_over_if hand_over_read
  hand_overs_lem f t ct b =
      subst (λ (x : Bool). Inv n (suc k) (step ours s (HandOver f t ct b)) (cond x m m) × (x ≡ true → Shows (step ours s (HandOver f t ct b)).copy (cond x m m))) (accepts_hand_over f t ct b)
      (go (hand_over_refusal (length (lent s.unit.file f)) (length (lent s.unit.tables t)) (length (lent s.copy.tables ct)) (length (lent s.copy.block b))) refl)
    where
      after : ℕ → State Cache
      after q =
          handed_to ct b (hand_over_if q (lent s.unit.file f) (lent s.unit.tables t) s.unit.generation s.unit.cache (lent s.copy.block b) (lent s.copy.tables ct) s.copy.generation)

      go : (q : ℕ) → hand_over_refusal (length (lent s.unit.file f)) (length (lent s.unit.tables t)) (length (lent s.copy.tables ct)) (length (lent s.copy.block b)) ≡ q → Inv n (suc k) (after q) (cond (eqb q 0) m m) × (eqb q 0 ≡ true → Shows (after q).copy (cond (eqb q 0) m m))
      go (suc q) e =
          rw (eqb-suc-zero q, left-lent s.copy.block b, left-lent s.copy.tables ct) (stays i, λ z. absurd (false≢true z))
      go zero e =
          let lengths = hand_over_lengths (length (lent s.unit.file f)) (length (lent s.unit.tables t)) (length (lent s.copy.tables ct)) (length (lent s.copy.block b)) e in
          let fe : f ≡ own = is_own s.unit.file f (λ p. omega (arith, lengths.0)) in
          let te : t ≡ own = is_own s.unit.tables t (λ p. p lengths.1) in
          let ce : ct ≡ own = is_own s.copy.tables ct (λ p. p lengths.2) in
          let be : b ≡ own = is_own s.copy.block b (λ p. p lengths.3) in
          rw (fe, te, ce, be, packs, takes (refreshed s.unit.file s.unit.cache)) (done, λ _. record { block = ap packed_reading (decodes i); tables = i.unit.entries })

  -- what a hand-over answers
  pub hand_over_answer : (f : Lent ShortFile) (t ct : Lent NotTables) (b : Lent NotBlock) → answer ours s (HandOver f t ct b) ≡ hand_over_refusal (length (lent s.unit.file f)) (length (lent s.unit.tables t)) (length (lent s.copy.tables ct)) (length (lent s.copy.block b))
  unfolding answer hand_over_if hand_over_read
  hand_over_answer f t ct b =
      go (hand_over_refusal (length (lent s.unit.file f)) (length (lent s.unit.tables t)) (length (lent s.copy.tables ct)) (length (lent s.copy.block b))) refl
    where
      go : (q : ℕ) → hand_over_refusal (length (lent s.unit.file f)) (length (lent s.unit.tables t)) (length (lent s.copy.tables ct)) (length (lent s.copy.block b)) ≡ q → (hand_over_if q (lent s.unit.file f) (lent s.unit.tables t) s.unit.generation s.unit.cache (lent s.copy.block b) (lent s.copy.tables ct) s.copy.generation).number ≡ q
      go (suc q) e = refl
      go zero e =
          let lengths = hand_over_lengths (length (lent s.unit.file f)) (length (lent s.unit.tables t)) (length (lent s.copy.tables ct)) (length (lent s.copy.block b)) e in
          let fe : f ≡ own = is_own s.unit.file f (λ p. omega (arith, lengths.0)) in
          rw (fe, packs) (taken-number _ _ _ _ _)
