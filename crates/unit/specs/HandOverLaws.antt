-- What the refusals of a hand-over tell: the first of the four by length is 0 exactly where each slice has its length. Assumes nothing.
use Rattle.std.specs.Prelude.{ℕ, zero, suc, ◌≤◌, ◌≡◌, refl, ◌&&◌, leb, eqb}
use Rattle.std.proofs.Common.{leb-true, eqb-true}
use Rattle.refusals.specs.declared.Refusal.{Refusal}
use Rattle.refusals.specs.Refusals.{number_of, file_refusal, tables_refusal, block_refusal, ◌else◌}
use Rattle.tables.specs.RefusalLaws.{refusal_not_zero, else_left, else_right, else_test, passed, passed_test}
use Rattle.unit.specs.Unit.{hand_over_refusal}

-- what is answered to each number from 1 on is answered to a refusal's
pub by_number : {X : Type 0} (F G : ℕ → X) → ((q : ℕ) → F (suc q) ≡ G (suc q)) → (k : Refusal) (q : ℕ) → number_of k ≡ q → F (number_of k) ≡ G q
by_number F G h k zero e = absurd (refusal_not_zero k e)
by_number F G h k (suc q) e = rw e (h q)

-- a file past its refusal
pub long_file : (n : ℕ) → file_refusal n ≡ 0 → 474 ≤ n
unfolding file_refusal
long_file n e = leb-true 474 n (passed (leb 474 n) 0 e)

pub read_lengths : (f b : ℕ) → file_refusal f else block_refusal b ≡ 0 → (474 ≤ f) × (b ≡ 328)
unfolding block_refusal
read_lengths f b e =
    (long_file f (else_left (file_refusal f) (block_refusal b) e), eqb-true b 328 (passed (eqb b 328) 5 (else_right (file_refusal f) (block_refusal b) e)))

pub hand_over_lengths : (f t ct b : ℕ) → hand_over_refusal f t ct b ≡ 0 → (474 ≤ f) × (t ≡ 12288) × (ct ≡ 12288) × (b ≡ 328)
unfolding file_refusal tables_refusal block_refusal
hand_over_lengths f t ct b e =
    let e₁ : tables_refusal t else tables_refusal ct else block_refusal b ≡ 0 = else_right (file_refusal f) (tables_refusal t else tables_refusal ct else block_refusal b) e in
    let e₂ : tables_refusal ct else block_refusal b ≡ 0 = else_right (tables_refusal t) (tables_refusal ct else block_refusal b) e₁ in (
      long_file f (else_left (file_refusal f) (tables_refusal t else tables_refusal ct else block_refusal b) e),
      eqb-true t 12288 (passed (eqb t 12288) 1 (else_left (tables_refusal t) (tables_refusal ct else block_refusal b) e₁)),
      eqb-true ct 12288 (passed (eqb ct 12288) 1 (else_left (tables_refusal ct) (block_refusal b) e₂)),
      eqb-true b 328 (passed (eqb b 328) 5 (else_right (tables_refusal ct) (block_refusal b) e₂)),
    )

pub hand_over_test : (f t ct b : ℕ) → eqb (hand_over_refusal f t ct b) 0 ≡ (leb 474 f && (eqb t 12288 && (eqb ct 12288 && eqb b 328)))
unfolding file_refusal tables_refusal block_refusal
hand_over_test f t ct b =
    rw (else_test (file_refusal f) (tables_refusal t else tables_refusal ct else block_refusal b), else_test (tables_refusal t) (tables_refusal ct else block_refusal b), else_test (tables_refusal ct) (block_refusal b), passed_test (leb 474 f) 0, passed_test (eqb t 12288) 1, passed_test (eqb ct 12288) 1, passed_test (eqb b 328) 5) refl
