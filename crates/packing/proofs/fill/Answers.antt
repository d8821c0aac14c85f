-- `packing::fill` meets its contract. The loop's invariant: after the head the slots before this one are put.
use native.Mathlib.Omega.{arith}
use Rattle.std.proofs.Common.{rules, ◌≡◌, length}
use Rattle.packing.proofs.Slots.{none_put, slot_put, all_put}
use Rattle.packing.proofs.fill.Goals as goal

pub loop-slot-init : goal.loop-slot-init
loop-slot-init c = none_put _ _

pub loop-slot-preserved : goal.loop-slot-preserved
loop-slot-preserved c = slot_put _ c.loop-slot.slot _ _ _ c.loop-slot.invariant c.put_slot.ensures

pub returns : goal.returns
returns c =
    let whole : length c.args.block.now ≡ 328 = search rules in
    let e : c.loop-slot.slot ≡ 8 = omega arith in
    all_put _ _ _ _ whole c.put_head.ensures (rw e at c.loop-slot.invariant)
