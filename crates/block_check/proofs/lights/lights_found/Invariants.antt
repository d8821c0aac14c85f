use Rattle.std.proofs.Common.{◌≡◌, ◌+◌, ◌*◌, true, map, length}
use Rattle.block.specs.Block.{words}
use Rattle.block_check.specs.Steps.{lights_formed, clear, found_formed, numbers}
use Rattle.block_check.proofs.lights.lights_found.Given as goal

abbrev pub invariant-loop-light : goal.invariant-loop-light
invariant-loop-light g l =
    record {
      formed : found_formed l.found ≡ lights_formed (words (map g.W.Word.value l.block)) (length l.yielded);
      nans : found_formed l.found ≡ true → clear l.found.nans ≡ numbers (words (map g.W.Word.value l.block)) 36 (4 + 36 * length l.yielded);
    }
