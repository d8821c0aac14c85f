-- `fields::colour_channel` meets its contract: the table's word of a field is its entry in the list of quotients, which is no NaN's, and the float of which is the
-- quotient.
use Prim.Native.Nat.{ℕ, ◌%◌}
use native.Mathlib.Omega.{arith}
use mathlib.Core.Path.{◌≡◌, ap, ◌∙◌}
use lib.ListN.{get_or}
use Rattle.quotients.specs.Steps.{quotient_words}
use Rattle.fields.specs.ColourLaws.{entry_channel, entry_number}
use Rattle.fields.proofs.colour_channel.Goals as goal

entry : (c : goal.After-colour_word) → c.colour_word.result ≡ get_or quotient_words c.args.field 0
entry c =
    let same : c.args.field % 1024 ≡ c.args.field = omega arith in
    c.colour_word.ensures ∙ ap (λ (k : ℕ). get_or quotient_words k 0) same

pub float_from_bits-result : goal.float_from_bits-result
float_from_bits-result c = rw (entry c) (entry_number _ c.requires)

pub returns : goal.returns
returns c = rw (entry c) (entry_channel _ c.requires)
