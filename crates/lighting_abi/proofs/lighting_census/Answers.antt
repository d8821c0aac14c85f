-- `lighting_abi::lighting_census` meets its contract: a place of four words is written over whole, with the definition's totals, and any other is left.
use Rattle.std.proofs.Common.{length, ap, ◌∙◌, eq-eqb, ne_eqb}
use Rattle.short_float_census.specs.Census.{four_of}
use Rattle.lighting_abi.specs.Boundary.{censused, census_words}
use Rattle.lighting_abi.proofs.lighting_census.Goals as goal

pub returns-then-totals-ne4 : goal.returns-then-totals-ne4
unfolding census_words
returns-then-totals-ne4 c = rw (ne_eqb (length c.args.totals.now) 4 c.if-totals-ne4.true)

pub returns : goal.returns
unfolding census_words
returns c =
    rw (eq-eqb (length c.args.totals.now) 4 c.if-totals-ne4.false) (ap (censused 0) (c.copy_from_slice.ensures.after ∙ ap four_of c.census-found.ensures))
