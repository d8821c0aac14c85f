-- `decoding::lit_registers` meets its contract: a reading that is on holds the registers' lighting.
use Rattle.decoding.proofs.DecodeLaws.{read-lit}
use Rattle.decoding.proofs.lit_registers.Goals as goal

pub returns : goal.returns
returns c =
    rw c.lighting.ensures (read-lit c.args.file.now c.requires)
