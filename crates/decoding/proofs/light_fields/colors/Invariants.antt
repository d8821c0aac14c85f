use Rattle.std.proofs.Common.{◌≡◌}
use Rattle.decoding.specs.Steps.{colours_to}
use Rattle.decoding.proofs.light_fields.colors.Given as goal

abbrev pub invariant-loop-k : goal.invariant-loop-k
invariant-loop-k l = l.channels ≡ colours_to l.words l.k
