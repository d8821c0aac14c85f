-- `decoding::registers_of` meets its contract. The first 474 words are there exactly if the file is not too short.
use Rattle.std.proofs.Common.{ℕ, refl, ◌≡◌, ◌≤◌, ◌<◌, List, length, take, Bor, Option, None, Some}
use Rattle.std.specs.Prelude.{MatchOption, MatchResult}
use Rattle.std.specs.Option.{ok_or}
use Rattle.std.specs.Array.{IsFirstChunk}
use borrow.Author.Tests.{lt-leb}
use Rattle.refusals.specs.Refusals.{number_of, file_refusal}
use Rattle.refusals.specs.declared.Refusal.{Refusal}
use Rattle.refusals.specs.declared.Refusal.TheVariants.{ShortFile}
use Rattle.decoding.proofs.registers_of.Goals as goal

first : (f : List ℕ) (o : Option (Bor (List ℕ)))
    → MatchOption o (length f < 474) (λ words. IsFirstChunk f words.now 474)
    → MatchResult (ok_or o ShortFile) (λ words. (474 ≤ length f) × (words.now ≡ take 474 f)) (λ refusal. (length f < 474) × (number_of refusal ≡ file_refusal (length f)))
unfolding file_refusal
first f None h = (h, rw (lt-leb 474 _ h) refl)
first f (Some words) h = (h.enough, h.same)

pub returns : goal.returns
returns c = rw c.ok_or.ensures.value (first c.args.file.now c.first_chunk.result c.first_chunk.ensures.cases)
