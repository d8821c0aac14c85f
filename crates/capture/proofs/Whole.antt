-- What the parts of the call leave is what is printed: a refusal prints its line, and the text that was put from the start is the output's
-- front. Assumes nothing.
use Rattle.std.proofs.Common.{ℕ, ◌≤◌, ◌<◌, ◌≡◌, refl, sym, ap, ◌∙◌, arith, List, ◌++◌, true, false, length, take, drop, le-leb, Result, Some, None}
use Rattle.std.proofs.lemmas.Bool.{lt-leb}
use Rattle.refusals.specs.Refusals.{number_of, outcome_number}
use Rattle.refusals.specs.declared.Refusal.{Refusal}
use Rattle.refusals.specs.declared.Refusal.TheVariants.{ShortFile, WrongTables, HighRegister, LastGeneration, WrongSaved, WrongBlock, NotWellFormed, BadCapture, WrongFragment}
use Rattle.sources.specs.Sources.{words_of}
use Rattle.lists.specs.Plain.{zero_machine}
use Rattle.printing.specs.declared.Lines.{Lines}
use Rattle.printing.specs.Steps.{Out, out, puts, so_far, Adds}
use Rattle.printing.specs.WritingLaws.{put_size, put_front}
use Rattle.printing.specs.Printing.{refused_line}
use Rattle.capture_check.specs.Contents.{contents, sized, capture_words_refusal, capture_refusal}
use Rattle.capture_calls.specs.Capture.{captured_by, machine_prints, printed_if, printed, prints_into, captures}
use Rattle.capture_calls.proofs.PrintedLaws.{printed_refused}
use Rattle.capture_calls.proofs.AnswerLaws.{printed_number, unprinted_number}

-- no refusal's number is 0
number_refused : (k : Refusal) (w : List ℕ) → printed_if (number_of k) w ≡ refused_line (number_of k)
number_refused ShortFile w = printed_refused 0 w
number_refused WrongTables w = printed_refused 1 w
number_refused HighRegister w = printed_refused 2 w
number_refused LastGeneration w = printed_refused 3 w
number_refused WrongSaved w = printed_refused 4 w
number_refused WrongBlock w = printed_refused 5 w
number_refused NotWellFormed w = printed_refused 6 w
number_refused BadCapture w = printed_refused 7 w
number_refused WrongFragment w = printed_refused 8 w

-- an input by its size, and by what it is refused with
module _ (input : List ℕ) where
  pub sized_bad : sized (length input) ≡ false → 8 ≡ capture_refusal input
  unfolding capture_refusal
  sized_bad e = rw e refl

  pub sized_good : sized (length input) ≡ true → capture_words_refusal (words_of input) ≡ capture_refusal input
  unfolding capture_refusal
  sized_good e = rw e refl

  pub run_prints : 0 ≡ capture_refusal input → machine_prints (words_of input) (contents (words_of input)) zero_machine ≡ printed input
  unfolding printed printed_if
  run_prints e = rw (← e) refl

  pub refused_prints : (k : Refusal) → number_of k ≡ capture_refusal input → refused_line (number_of k) ≡ printed input
  unfolding printed
  refused_prints k e = rw (← e) (sym (number_refused k (words_of input)))

  -- an answer of an outcome: with room for what is printed, the output has it; without, it is left
  module _ (o : Result (Unit {0}) Refusal) (e : outcome_number o ≡ capture_refusal input) (q : List ℕ) where
    pub without_room : length q < length (printed input) → (n : ℕ) → captured_by (record { outcome = o; printed = None }) n q ≡ captures input n q
    unfolding captures prints_into
    without_room h n = rw (lt-leb (length (printed input)) (length q) h, unprinted_number o, e) refl

    pub with_room : (text : List ℕ) → text ≡ printed input → length text ≤ length q → (n : ℕ) → captured_by (record { outcome = o; printed = Some (length text) }) n (text ++ drop (length text) q) ≡ captures input n q
    unfolding captures prints_into
    with_room text t h n =
        rw (printed_number o (length text), e, t, le-leb (length (printed input)) (length q) (rw (← t) h)) refl

-- a text that was put into an empty buffer which has room for it is what stands there
pub put_text : (z : List ℕ) (a b : Lines) (text : List ℕ) → so_far a ≡ out z 0 → Adds a b text → length text ≤ length z → take b.len b.bytes.now ≡ text
put_text z a b text e h = put_front z b.bytes.now text b.len (h.after ∙ ap (λ (o : Out). puts o text) e)

-- the words that were read stand at the front of a longer array
pub front_words : (z l w : List ℕ) (r : ℕ) → out l r ≡ puts (out z 0) w → r ≤ length l → length l ≡ length z → take r l ≡ w
front_words z l w r e h k = put_front z l w r e (omega (arith, put_size z l w r e))
