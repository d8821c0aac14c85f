-- What the form of a block says of every fragment: once the lengths are right, block shading answers by the form alone. Assumes nothing.
use Rattle.std.specs.Prelude.{ℕ, ◌≡◌, List, length, Option, None, Result, Ok}
use Rattle.std.proofs.Math.Path.{refl}
use Rattle.std.proofs.Common.{sym}
use Rattle.refusals.specs.declared.Refusal.{Refusal}
use Rattle.shading.specs.Shade.{Shaded}
use Rattle.block.specs.Block.{words, block_lighting}
use Rattle.block.specs.Steps.{block_form}
use Rattle.block.specs.declared.BlockForm.TheVariants.{Off, NotWellFormed}
use Rattle.block_reading.specs.FormLaws.{Lit}
use Rattle.block_shading.proofs.AnswersLaws.{off_of_one, bad_of_one, lit_of_one}
use Rattle.printing.specs.Printing.{off_line}
use Rattle.capture_lines.specs.Lines.{no_answer, shown_line}
use Rattle.capture_lines.specs.Steps.{block_shades, lit_shades, unlit_shades, found_shades}

module _ (b t q : List ℕ) (block : length b ≡ 328) (tables : length t ≡ 12288) (fragment : length q ≡ 23) where
  pub lit_shades_lem : Lit b → block_shades b t q ≡ lit_shades (block_lighting (words b)) t q
  lit_shades_lem l = sym (lit_of_one b t q no_answer fragment refl block tables l)

  pub off_shades : block_form b ≡ Off → block_shades b t q ≡ unlit_shades 100 q
  off_shades e = sym (off_of_one b t q no_answer fragment refl block tables e)

  pub bad_shades : block_form b ≡ NotWellFormed → block_shades b t q ≡ unlit_shades 7 q
  bad_shades e = sym (bad_of_one b t q no_answer fragment refl block tables e)

-- what was found to be off
pub off_found : {A : Type 0} (shades : A → List ℕ → Shaded) (r : Result (Option A) Refusal) (o : Option A) (q : List ℕ) → r ≡ Ok o → o ≡ None → found_shades shades r q ≡ unlit_shades 100 q
off_found shades r o q e f = rw (e, f) refl

pub off_found_shown : {A : Type 0} (shades : A → List ℕ → Shaded) (r : Result (Option A) Refusal) (q : List ℕ) → r ≡ Ok None → shown_line (found_shades shades r q) ≡ off_line
unfolding shown_line
off_found_shown shades r q e = rw e refl
