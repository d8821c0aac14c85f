-- `capture_lines::print_fragments` meets its contract. The lines of the fragments that are still to come stay what was due, and each takes at most 32 bytes.
use Rattle.std.proofs.Common.{◌*◌, ◌/◌, ◌≡◌, List, ℕ, length, take, drop, get_or, [], length-take, length-drop, refl, arith, ap, ◌∙◌}
use Rattle.printing.specs.Steps.{puts}
use Rattle.printing.specs.AddedLaws.{added_room}
use Rattle.capture_lines.specs.Steps.{block_shades}
use Rattle.capture_lines.specs.LinesLaws.{fragment_at, lines_all, lines_none, lines_turn}
use Rattle.capture_lines.proofs.print_fragments.Goals as goal

pub loop-fragment-init : goal.loop-fragment-init
loop-fragment-init c = record { same_reference = refl; same_length = refl; within = omega arith; due = rw lines_all }

pub print_fragment-requires : goal.print_fragment-requires
print_fragment-requires c =
    let l = c.loop-fragment.invariant in
    omega (arith, l.within, l.same_length, c.requires, c.as_chunks.ensures.front_len)

pub loop-fragment-preserved : goal.loop-fragment-preserved
loop-fragment-preserved c =
    let l = c.loop-fragment in
    let r = c.print_fragment.ensures in
    let ws = c.args.fragments.now in
    let e : get_or c.as_chunks.result.0.now l.fragment-index [] ≡ take 23 (drop (23 * l.fragment-index) ws) =
    ap (λ (cs : List (List ℕ)). get_or cs l.fragment-index []) c.as_chunks.ensures.front ∙ fragment_at (length ws / 23) ws l.fragment-index [] (omega (arith, c.as_chunks.ensures.front_len)) in
    let q = get_or c.as_chunks.result.0.now l.fragment-index [] in
    let long : length q ≡ 23 = rw e (simp (length-take, length-drop) (omega (arith, c.as_chunks.ensures.front_len))) in
    let shown = rw (← c.found-found.ensures q long) at r.text in
    record {
      same_reference = r.text.same_reference ∙ l.invariant.same_reference;
      same_length = added_room _ _ _ shown ∙ l.invariant.same_length;
      within = omega (arith, r.room, c.as_chunks.ensures.front_len);
      due = lines_turn (block_shades c.args.block.now c.args.tables.now) ws _ _ l.fragment-index _ _ _ (omega (arith, c.as_chunks.ensures.front_len)) e shown l.invariant.due;
    }

pub returns : goal.returns
unfolding puts
returns c =
    let l = c.loop-fragment in
    record {
      text = record {
        same_reference = l.invariant.same_reference;
        after = rw (lines_none (block_shades c.args.block.now c.args.tables.now) c.args.fragments.now l.fragment-index (length c.args.fragments.now / 23) (omega (arith, c.as_chunks.ensures.front_len))) at l.invariant.due;
      };
      room = omega (arith, l.invariant.within, c.as_chunks.ensures.front_len);
    }
