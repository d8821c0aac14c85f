-- `fresh::run_fresh` meets its contract. The slices and what is held beside them are a fresh unit and a fresh copy, on which the bodies print
-- as the plain machine does.
use Rattle.std.proofs.Common.{arith}
use Rattle.capture_calls.specs.RefusalLaws.{not_refused_shaped}
use Rattle.capture.proofs.fresh.Fresh.{fresh_prints}
use Rattle.capture.proofs.fresh.run_fresh.Goals as goal

pub run_bodies-requires : goal.run_bodies-requires
run_bodies-requires c =
    record {
      formed = not_refused_shaped _ c.requires.1;
      words_in_bounds = omega (arith, c.requires);
    }

pub returns : goal.returns
returns c =
    rw (← fresh_prints c.args.words.now c.fresh_cache.result c.requires.0 c.requires.1 c.fresh_cache.ensures) c.run_bodies.ensures.text
