-- An output of 22,784 bytes is never too short: the call's number is then the capture's own, 0, 8 or 3. And a refusal comes before 101. Assumes nothing.
use Rattle.std.specs.Prelude.{ℕ, ◌≤◌, ◌≡◌, refl, List, Bool, true, false, cond, leb, length, Result, Ok, Err, Some, None}
use Rattle.std.proofs.Common.{arith, sym, ap, ◌∙◌, le-leb}
use Rattle.refusals.specs.Refusals.{number_of, outcome_number, ◌else◌}
use Rattle.refusals.specs.declared.Refusal.{Refusal}
use Rattle.refusals.specs.declared.Refusal.TheVariants.{ShortFile, WrongTables, HighRegister, LastGeneration, WrongSaved, WrongBlock, NotWellFormed, BadCapture, WrongFragment}
use Rattle.sources.specs.Sources.{words_of}
use Rattle.capture_check.specs.Contents.{contents, sized, shaped, registers_right, capture_words_refusal, capture_refusal}
use Rattle.capture_calls.specs.Capture.{largest_output, short_output, number_of_answer, number_by, Captured, captured_by, printed, prints_into, captures}
use Rattle.capture_calls.proofs.PrintedLaws.{printed_fits}
use Rattle.capture_calls.specs.declared.Answer.{Answer}

refusal_other : (input : List ℕ) → capture_refusal input ≡ short_output → ⊥
unfolding capture_refusal capture_words_refusal
refusal_other input = go (sized (length input)) (shaped (words_of input)) (registers_right (words_of input) (contents (words_of input)))
  where
    go : (a b c : Bool) → ◌≡◌ {A = ℕ} (cond a (cond b (cond c 0 3) 8) 8) short_output → ⊥
    go true true true e = omega arith
    go true true false e = omega arith
    go true false c e = omega arith
    go false b c e = omega arith

pub output_suffices : (input o o' : List ℕ) (n : ℕ) (a : Answer) → largest_output ≤ length o → captured_by a n o' ≡ captures input n o → number_by a ≡ short_output → ⊥
unfolding captures prints_into
output_suffices input o o' n a h e k =
    let room : leb (length (printed input)) (length o) ≡ true = le-leb (length (printed input)) (length o) (omega (arith, printed_fits input)) in
    let number : number_by a ≡ capture_refusal input = ap (λ (r : Captured). r.number) (rw room at e) in
    refusal_other input (sym number ∙ k)

-- a refusal comes before 101
pub refusal_first : (k : Refusal) → number_of k else short_output ≡ number_of k
refusal_first ShortFile = refl
refusal_first WrongTables = refl
refusal_first HighRegister = refl
refusal_first LastGeneration = refl
refusal_first WrongSaved = refl
refusal_first WrongBlock = refl
refusal_first NotWellFormed = refl
refusal_first BadCapture = refl
refusal_first WrongFragment = refl

-- an answer's number by its two parts: what is printed is told by the capture's own number, and without room a refusal comes first
module _ (o : Result (Unit {0}) Refusal) where
  pub printed_number : (n : ℕ) → number_of_answer o (Some n) ≡ outcome_number o
  printed_number n = go o
    where
      go : (o : Result (Unit {0}) Refusal) → number_of_answer o (Some n) ≡ outcome_number o
      go (Ok done) = refl
      go (Err k) = refl

  pub unprinted_number : number_of_answer o None ≡ outcome_number o else short_output
  unprinted_number = go o
    where
      go : (o : Result (Unit {0}) Refusal) → number_of_answer o None ≡ outcome_number o else short_output
      go (Ok done) = refl
      go (Err k) = sym (refusal_first k)
