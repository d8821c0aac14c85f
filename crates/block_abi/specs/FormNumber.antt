-- For tests alone: a block's form as a number. Definitions only.
use Rattle.std.specs.Prelude.{ℕ, List, length}
use Rattle.refusals.specs.Refusals.{block_refusal, ◌else◌}
use Rattle.block.specs.declared.BlockForm.{BlockForm}
use Rattle.block.specs.declared.BlockForm.TheVariants.{Off, NotWellFormed, NanFree, WithNan}
use Rattle.block.specs.Steps.{block_form}

-- 100 and 7 as block shading has them; of a well-formed block 0, or 1 if a word is a NaN's
abbrev pub number_of_form : BlockForm → ℕ
number_of_form Off = 100
number_of_form NotWellFormed = 7
number_of_form NanFree = 0
number_of_form WithNan = 1

-- 6 for a block of another length, else by its form
abbrev pub form_number : List ℕ → ℕ
form_number b = block_refusal (length b) else number_of_form (block_form b)
