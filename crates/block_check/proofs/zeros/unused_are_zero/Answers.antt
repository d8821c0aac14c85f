-- `zeros::unused_are_zero` meets its contract. The loop's invariant: the lanes of the slots from the count to this one are clear exactly if their words are zero.
--
use Rattle.std.proofs.Common.{◌≡◌, ◌+◌, ◌-◌, ◌*◌, ◌<◌, ◌≤◌, ℕ, List, Bool, true, ◌&&◌, eqb, map, drop, take, length, get_or, arith, ap, ◌∙◌}
use Rattle.lighting.specs.Forms.{every}
use Rattle.lighting.specs.Lighting.{slot_of}
use Rattle.block.specs.Block.{words, slot_at, zeros}
use Rattle.block_check.specs.Steps.{clear}
use Rattle.block_check.specs.OrLaws.{then_more}
use Rattle.block_check.proofs.Parts.{every_same, part_item, part_length}
use Rattle.block_check.proofs.zeros.unused_are_zero.Goals as goal

pub loop-slot-init : goal.loop-slot-init
unfolding zeros every
loop-slot-init g c = c.none-lanes.ensures

-- the slots from the count on are as many as are left of eight
unused : {X : Type 0} (slots : List X) (count : ℕ) → count ≤ 8 → length slots ≡ 8 → length (take (length slots - count) (drop count slots)) ≡ 8 - count
unused slots count few eight = rw eight (part_length slots count (8 - count) (omega (arith, eight)))

-- slot i of them is slot count + i of the eight
unused_slot : {X : Type 0} (slots : List X) (count i : ℕ) (d : X) → count ≤ 8 → length slots ≡ 8 → i < length (take (length slots - count) (drop count slots))
    → (get_or (take (length slots - count) (drop count slots)) i d ≡ get_or slots (count + i) d) × (count + i < 8)
unused_slot slots count i d few eight h =
    let left = unused slots count few eight in
    (part_item slots count (length slots - count) i d (omega (arith, left)), omega (arith, left))

pub loop-slot-preserved : goal.loop-slot-preserved
unfolding zeros
loop-slot-preserved g c =
    let l = c.loop-slot in
    let i = l.slot-index in
    let count = c.args.count in
    let value = g.W.Word.value in
    let w = words (map value c.args.block.now) in
    let one = unused_slot c.slots_of.result.now count i c.slot-item.result c.requires c.slots_of.ensures.eight c.loop-slot-test.true in
    let is = c.slot-item.is ∙ one.0 in
    let long : length c.slot-item.result ≡ 36 = ap length is ∙ c.slots_of.ensures.long (count + i) c.slot-item.result one.1 in
    let e : 36 * (i + 1) ≡ 36 * i + 36 = omega arith in
    let at : (k : ℕ) → slot_at (slot_of (count + i)) + k ≡ slot_at (slot_of count) + (36 * i + k) = λ k. omega arith in
    let same : (k : ℕ) → k < 36 → words (map value c.slot-item.result) k ≡ w (slot_at (slot_of count) + (36 * i + k)) =
    λ k m. ap (λ v. words (map value v) k) is ∙ c.slots_of.ensures.same (count + i) k c.slot-item.result one.1 m ∙ ap w (at k) in
    rw e
    (then_more (λ k. eqb (w (slot_at (slot_of count) + k)) 0) (36 * i) 36 true (clear l.lanes) _ l.invariant
    (rw long at c.with_rows-lanes.ensures ∙ ap (λ (b : Bool). clear l.lanes && b) (every_same 36 _ _ (λ k m. ap (λ n. eqb n 0) (same k m)))))
