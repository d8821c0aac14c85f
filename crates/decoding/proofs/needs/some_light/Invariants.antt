use Rattle.std.specs.Prelude.{◌≡◌, take}
use Rattle.std.specs.List.{list_any}
use Rattle.decoding.specs.Steps.{has_spotlight, is_geometric}
use Rattle.decoding.proofs.needs.some_light.Given as goal

abbrev pub invariant-loop-slot : goal.invariant-loop-slot
invariant-loop-slot l = (l.some.spotlit ≡ list_any has_spotlight (take l.slot l.lights)) × (l.some.geometric ≡ list_any is_geometric (take l.slot l.lights))
