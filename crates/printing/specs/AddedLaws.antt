-- Texts that are put after one another are put as one, and the lines are then longer by their lengths, while the buffer is as long as before. A refusal's number has at
-- most three digits. Assumes nothing.
use Rattle.std.specs.Prelude.{ℕ, ◌+◌, ◌<◌, ◌≤◌, ◌≡◌, List, ◌++◌, length}
use Rattle.std.proofs.Common.{arith, ap, ◌∙◌, sym}
use Rattle.std.proofs.Math.Seq.{length-sets}
use Rattle.printing.specs.declared.Lines.{Lines}
use Rattle.printing.specs.Printing.{decimal}
use Rattle.printing.specs.DecimalLaws.{decimal_most}
use Rattle.printing.specs.Steps.{Out, puts, so_far, Adds}
use Rattle.printing.specs.WritingLaws.{puts_append, puts_at, puts_list, puts_more}
use Rattle.refusals.specs.Refusals.{number_of}
use Rattle.refusals.specs.declared.Refusal.{Refusal}
use Rattle.refusals.specs.declared.Refusal.TheVariants.{ShortFile, WrongTables, HighRegister, LastGeneration, WrongSaved, WrongBlock, NotWellFormed, BadCapture, WrongFragment}

module _ (a b : Lines) (xs : List ℕ) (h : Adds a b xs) where
  pub added_len : b.len ≡ a.len + length xs
  added_len = ap (λ (o : Out). o.at) h.after ∙ puts_at (so_far a) xs

  pub added_room : length b.bytes.now ≡ length a.bytes.now
  added_room = ap (λ (o : Out). length o.list) h.after ∙ ap length (puts_list (so_far a) xs) ∙ length-sets a.bytes.now a.len xs

  pub added_more : (c : Lines) (ys : List ℕ) → Adds b c ys → Adds a c (xs ++ ys)
  added_more c ys k =
      record {
        same_reference = k.same_reference ∙ h.same_reference;
        after = k.after ∙ ap (λ (o : Out). puts o ys) h.after ∙ sym (puts_append (so_far a) xs ys);
      }

  -- of what is still to be put, a piece is
  pub added_due : (rest : List ℕ) (all : Out) → puts (so_far a) (xs ++ rest) ≡ all → puts (so_far b) rest ≡ all
  added_due rest all = puts_more (so_far a) (so_far b) all xs rest h.after

-- a number takes three bytes at most
pub added_decimal : (a b : Lines) (k : ℕ) → Adds a b (decimal k) → b.len ≤ a.len + 3
added_decimal a b k h = omega (arith, added_len a b (decimal k) h, decimal_most k)

pub refusal_small : (k : Refusal) → number_of k < 1000
refusal_small ShortFile = omega arith
refusal_small WrongTables = omega arith
refusal_small HighRegister = omega arith
refusal_small LastGeneration = omega arith
refusal_small WrongSaved = omega arith
refusal_small WrongBlock = omega arith
refusal_small NotWellFormed = omega arith
refusal_small BadCapture = omega arith
refusal_small WrongFragment = omega arith
