-- What the refusals by lengths and register tell: one that is 0 gives the length or the register its bound, and the first of several is 0 exactly where each is. Assumes nothing.
use Rattle.std.specs.Prelude.{◌≡◌, ℕ, zero, suc, ◌<◌, ◌≤◌, Bool, true, false, cond, ◌&&◌, List, length, ◌==◌, ◌≢◌, nat_le, nat_lt, refl}
use Rattle.std.proofs.Common.{arith, leb-true, ltb-true, eqb-true}
use Rattle.std.proofs.Math.Dec.{eqb-suc-zero}
use Rattle.refusals.specs.Refusals.{number_of, file_refusal, tables_refusal, register_refusal, saved_refusal, ◌else◌}
use Rattle.refusals.specs.declared.Refusal.{Refusal}
use Rattle.refusals.specs.declared.Refusal.TheVariants.{ShortFile, WrongTables, HighRegister, LastGeneration, WrongSaved, WrongBlock, NotWellFormed, BadCapture, WrongFragment}
use Rattle.tables.specs.Tables.{write_refusal, restore_refusal}

-- no refusal is 0
pub refusal_not_zero : (k : Refusal) → number_of k ≢ 0
refusal_not_zero ShortFile e = omega arith
refusal_not_zero WrongTables e = omega arith
refusal_not_zero HighRegister e = omega arith
refusal_not_zero LastGeneration e = omega arith
refusal_not_zero WrongSaved e = omega arith
refusal_not_zero WrongBlock e = omega arith
refusal_not_zero NotWellFormed e = omega arith
refusal_not_zero BadCapture e = omega arith
refusal_not_zero WrongFragment e = omega arith

-- the first of two
pub else_left : (a b : ℕ) → a else b ≡ 0 → a ≡ 0
else_left zero b e = refl
else_left (suc a) b e = e

pub else_right : (a b : ℕ) → a else b ≡ 0 → b ≡ 0
else_right zero b e = e
else_right (suc a) b e = omega arith

pub else_test : (a b : ℕ) → ((a else b) == 0) ≡ (a == 0 && b == 0)
else_test zero b = refl
else_test (suc a) b = rw eqb-suc-zero refl

-- a refusal by a test
pub passed : (b : Bool) (k : ℕ) → cond b 0 (suc k) ≡ 0 → b ≡ true
passed true k e = refl
passed false k e = absurd (omega arith)

pub passed_test : (b : Bool) (k : ℕ) → (cond b 0 (suc k) == 0) ≡ b
passed_test true k = refl
passed_test false k = eqb-suc-zero k

-- what a call past its refusals tells of its lengths and its register
pub write_lengths : (f t r : ℕ) → write_refusal f t r ≡ 0 → (474 ≤ f) × (t ≡ 12288) × (r < 474)
unfolding file_refusal tables_refusal register_refusal
write_lengths f t r e =
    let rest : tables_refusal t else register_refusal r ≡ 0 = else_right (file_refusal f) (tables_refusal t else register_refusal r) e in (
      leb-true 474 f (passed (nat_le 474 f) 0 (else_left (file_refusal f) (tables_refusal t else register_refusal r) e)),
      eqb-true t 12288 (passed (t == 12288) 1 (else_left (tables_refusal t) (register_refusal r) rest)),
      ltb-true r 474 (passed (nat_lt r 474) 2 (else_right (tables_refusal t) (register_refusal r) rest)),
    )

pub restore_lengths : (t : ℕ) (saved : List ℕ) → restore_refusal t saved ≡ 0 → (t ≡ 12288) × (length saved ≡ 12288)
unfolding tables_refusal saved_refusal
restore_lengths t saved e = (
  eqb-true t 12288 (passed (t == 12288) 1 (else_left (tables_refusal t) (saved_refusal (length saved)) e)),
  eqb-true (length saved) 12288 (passed (length saved == 12288) 4 (else_right (tables_refusal t) (saved_refusal (length saved)) e)),
)

-- which calls pass, as a test
pub write_test : (f t r : ℕ) → (write_refusal f t r == 0) ≡ (nat_le 474 f && (t == 12288 && nat_lt r 474))
unfolding file_refusal tables_refusal register_refusal
write_test f t r =
    rw (else_test (file_refusal f) (tables_refusal t else register_refusal r), else_test (tables_refusal t) (register_refusal r), passed_test (nat_le 474 f) 0, passed_test (t == 12288) 1, passed_test (nat_lt r 474) 2) refl

pub restore_test : (t : ℕ) (saved : List ℕ) → (restore_refusal t saved == 0) ≡ (t == 12288 && length saved == 12288)
unfolding tables_refusal saved_refusal
restore_test t saved =
    rw (else_test (tables_refusal t) (saved_refusal (length saved)), passed_test (t == 12288) 1, passed_test (length saved == 12288) 4) refl
