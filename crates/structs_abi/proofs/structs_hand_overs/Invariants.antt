use Rattle.std.proofs.Common.{◌≡◌, ◌-◌}
use Rattle.refusals.specs.Refusals.{outcome_number}
use Rattle.unit.specs.Unit.{fresh_cache, handed}
use Rattle.structs_abi.specs.HandOvers.{hand_overs}
use Rattle.structs_abi.proofs.structs_hand_overs.Given as goal

abbrev pub invariant-loop : goal.invariant-loop
invariant-loop l =
    hand_overs l.file l.other l.tables l.first l.second (l.pairs - l.counter) (handed (outcome_number l.last) l.cache l.block l.copied l.age) ≡ hand_overs l.file l.other l.tables l.first l.second l.pairs (handed 0 fresh_cache l.initial.block l.initial.copied l.initial.age)
