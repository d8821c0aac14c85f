-- `structs_abi::shade_reading` meets its contract: each return is the case of the definition.
use Rattle.sources.proofs.WordsLaws.{word_values}
use Rattle.structs_abi.specs.Composed.{shades_reading}
use Rattle.structs_abi.proofs.shade_reading.Goals as goal

pub returns-in-Some : goal.returns-in-Some
unfolding shades_reading
returns-in-Some c =
    rw (c.outcome_number.ensures, c.in-Some.is)
    (rw (c.texels_of-texels.ensures, c.view_of-view.ensures, c.quaternion_of-quaternion.ensures, word_values c.args.fragment.now) at c.shade.ensures)

pub returns-in-None : goal.returns-in-None
unfolding shades_reading
returns-in-None c = rw (c.switch_number.ensures, c.in-None.is)
