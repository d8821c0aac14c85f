-- `lighting_abi::lighting_shade_fragments` meets its contract. The number is the one that `switch_number` ensures of the answer which `block_shading::shade_fragments` ensures. Assumes
-- nothing.
use Rattle.lighting_abi.proofs.lighting_shade_fragments.Goals as goal

pub returns : goal.returns
returns c = cc
