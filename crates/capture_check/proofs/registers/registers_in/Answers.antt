-- `registers::registers_in` meets its contract: it looks at each pair, whose first word is the register.
use Rattle.std.proofs.Common.{rules, tests, length, ◌/◌, ◌∙◌}
use Rattle.std.specs.Simd.{first_chunks}
use Rattle.std.proofs.lemmas.Iterator.Search.{all_from_yields_List}
use Rattle.std.proofs.lemmas.Iterator.{YieldsList-from_slice}
use Rattle.capture_check.proofs.registers.Pairs.{low, pairs_low}
use Rattle.capture_check.proofs.registers.registers_in.Goals as goal

pub returns : goal.returns
returns c =
    all_from_yields_List low _ _ _ c.all.ensures.ran (YieldsList-from_slice (first_chunks 2 (length c.args.words.now / 2) c.args.words.now) cc) (λ x b q k. search (rules, tests))
    ∙ pairs_low c.args.words.now
