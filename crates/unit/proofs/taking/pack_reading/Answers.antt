-- `taking::pack_reading` meets its contract: a lighting that is on is packed as `pack` does, and one that is off is all zero.
use Rattle.std.proofs.Common.{refl, ◌∙◌}
use Rattle.block.specs.Block.{packed_reading}
use Rattle.unit.specs.Unit.{packable}
use Rattle.unit.specs.Steps.{packs_reading}
use Rattle.unit.proofs.taking.Took.{pack_on}
use Rattle.unit.proofs.taking.pack_reading.Goals as goal

pub returns-in-None : goal.returns-in-None
unfolding packs_reading packable packed_reading
returns-in-None c = rw (c.in-None.is, c.fill.ensures.after (λ y e. e), c.requires) refl

pub returns-in-Some : goal.returns-in-Some
returns-in-Some c = rw c.in-Some.is (c.pack.ensures ∙ pack_on c.in-Some.lighting c.args.block.now c.requires)
