use Rattle.std.proofs.Common.{◌≡◌, ◌*◌, take}
use Rattle.lighting_abi.specs.Boundary.{bytes_of}
use Rattle.lighting_abi.proofs.answer_bytes.put.Given as goal

abbrev pub invariant-loop-i : goal.invariant-loop-i
invariant-loop-i l = take (4 * l.i) l.answer ≡ bytes_of (take l.i l.channel-items)
