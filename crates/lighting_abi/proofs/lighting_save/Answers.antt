-- `lighting_abi::lighting_save` meets its contract. The number is the one that `outcome_number` ensures of the answer which `save` ensures.
use Rattle.lighting_abi.proofs.lighting_save.Goals as goal

pub returns : goal.returns
returns c = cc
