use mathlib.Core.Path.{◌≡◌}
use Rattle.fields.specs.Steps.{channels_to}
use Rattle.fields.proofs.color.Given as goal

abbrev pub invariant-loop-i : goal.invariant-loop-i
invariant-loop-i l = l.channels ≡ channels_to l.value l.i
