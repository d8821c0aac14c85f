-- A bad capture prints its refusal and nothing else. And no capture prints more than 22,784 bytes: a refusal's line is short, and of 16,384 words no more than 32 bytes are printed for each 23.
-- Assumes nothing.
use Rattle.std.specs.Prelude.{ℕ, zero, suc, ◌≤◌, ◌≡◌, refl, List, Bool, true, false, cond, length}
use Rattle.std.proofs.Common.{arith}
use Rattle.sources.specs.Sources.{words_of}
use Rattle.sources.specs.SourcesLaws.{length_words}
use Rattle.lists.specs.Plain.{zero_machine}
use Rattle.printing.specs.Printing.{refused_line}
use Rattle.printing.specs.TextLaws.{refused_most}
use Rattle.capture_check.specs.Contents.{body_count, contents, contents_end, sized, shaped, capture_words_refusal, capture_refusal}
use Rattle.capture_check.specs.ContentsLaws.{shaped-gapless, sized_most}
use Rattle.capture_calls.specs.Capture.{largest_output, printed_if, printed}
use Rattle.capture_calls.proofs.MachineLaws.{machine_fits}
use Rattle.capture_calls.specs.RefusalLaws.{not_refused_shaped}

-- "A bad capture prints only `refused N`."
pub printed_refused : (k : ℕ) (w : List ℕ) → printed_if (suc k) w ≡ refused_line (suc k)
unfolding printed_if
printed_refused k w = refl

pub printed_fits : (input : List ℕ) → length (printed input) ≤ largest_output
unfolding printed printed_if capture_refusal
printed_fits input = go (sized (length input)) refl
  where
    fits : sized (length input) ≡ true → (k : ℕ) → capture_words_refusal (words_of input) ≡ k → length (printed_if k (words_of input)) ≤ largest_output
    fits e zero h =
        let s : shaped (words_of input) ≡ true = not_refused_shaped (words_of input) h in
        omega (arith, machine_fits (words_of input) (contents (words_of input)) zero_machine (contents_end (body_count (words_of input))) (length (words_of input)) (shaped-gapless (words_of input) s), length_words input, sized_most (length input) e)
    fits e (suc k) h = omega (arith, refused_most (suc k))

    go : (b : Bool) → sized (length input) ≡ b → length (printed_if (cond b (capture_words_refusal (words_of input)) 8) (words_of input)) ≤ largest_output
    go true e = fits e (capture_words_refusal (words_of input)) refl
    go false e = omega (arith, refused_most 8)
