-- `bodies::run_bodies` meets its contract. What the bodies that are still to come do to the unit and the copy so far, and print from the place so far, stays what all of
-- them do and print; and for the words that are left there is room.
use Rattle.std.proofs.Common.{ℕ, ◌≡◌, ◌+◌, ◌≤◌, ◌<◌, true, List, [], ◌∷◌, length, get_or, drop, arith, refl, ap, ◌∙◌}
use Rattle.printing.specs.Steps.{puts}
use Rattle.printing.specs.AddedLaws.{added_room}
use Rattle.lists.specs.Calls.{run}
use Rattle.capture_check.specs.Contents.{Body, body_count, contents_end, words_in, gapless}
use Rattle.capture_check.specs.Steps.{bodies}
use Rattle.capture_check.specs.ContentsLaws.{lies-offset, lies_end, gapless_head, gapless_rest, shaped_end, shaped-gapless}
use Rattle.capture_check.specs.StepsLaws.{here, bodies_more, bodies_none}
use Rattle.capture_body.specs.Steps.{lent_state}
use Rattle.capture_calls.proofs.CallLaws.{words_in_few}
use Rattle.capture_calls.specs.Steps.{calls_of, copy_prints}
use Rattle.capture.proofs.bodies.NextBody.{calls_turn, prints_turn}
use Rattle.capture.proofs.bodies.run_bodies.Goals as goal

-- body i, which is due at `at` of `end` words
module _ (ts : List (List ℕ)) (i at end : ℕ) (h : i < length ts) (g : gapless (bodies (drop i ts)) at end ≡ true) where
  stands : gapless (here ts i h ∷ bodies (drop (i + 1) ts)) at end ≡ true
  stands = rw (bodies_more ts i h) at g

  offset : get_or (get_or ts i []) 1 0 ≡ at
  offset = lies-offset (here ts i h) at end (gapless_head (here ts i h) (bodies (drop (i + 1) ts)) at end stands)

  ends : at + get_or (get_or ts i []) 2 0 ≤ end
  ends = lies_end (here ts i h) at end (gapless_head (here ts i h) (bodies (drop (i + 1) ts)) at end stands)

  rest : gapless (bodies (drop (i + 1) ts)) (at + get_or (get_or ts i []) 2 0) end ≡ true
  rest = gapless_rest (here ts i h) (bodies (drop (i + 1) ts)) at end stands

pub triples-triple-items-requires : goal.triples-triple-items-requires
triples-triple-items-requires c = shaped_end _ c.requires.formed

pub loop-triple-init : goal.loop-triple-init
loop-triple-init c =
    let w = c.args.words.now in
    let e = c.triples-triple-items.ensures in
    record {
      at = contents_end (body_count w);
      stand = rw e (shaped-gapless w c.requires.formed);
      same_reference = refl;
      room = omega (arith, c.requires.words_in_bounds);
      calls = rw e refl;
      due = rw e refl;
    }

pub body_words-body-requires : goal.body_words-body-requires
body_words-body-requires c =
    let l = c.loop-triple in
    let ts = c.triples-triple-items.result.now in
    let at = l.invariant.at in
    let end = length c.args.words.now in
    let e = c.from-entry.ensures in
    omega (arith, ap (λ (b : Body). b.offset) e, ap (λ (b : Body). b.size) e, offset ts l.triple-index at end (omega arith) l.invariant.stand, ends ts l.triple-index at end (omega arith) l.invariant.stand)

pub run_body-held-requires : goal.run_body-held-requires
run_body-held-requires c =
    let l = c.loop-triple in
    let ts = c.triples-triple-items.result.now in
    let w = c.args.words.now in
    let b = here ts l.triple-index (omega arith) in
    let few = words_in_few w b in
    let fits = ends ts l.triple-index l.invariant.at (length w) (omega arith) l.invariant.stand in
    rw (c.body_words-body.ensures ∙ ap (words_in w) c.from-entry.ensures) (omega (arith, few, fits, l.invariant.room))

pub loop-triple-preserved : goal.loop-triple-preserved
loop-triple-preserved c =
    let l = c.loop-triple in
    let ts = c.triples-triple-items.result.now in
    let i = l.triple-index in
    let at = l.invariant.at in
    let w = c.args.words.now in
    let h : i < length ts = omega arith in
    let b = here ts i h in
    let r = c.run_body-held in
    let few = words_in_few w b in
    let fits = ends ts i at (length w) h l.invariant.stand in
    let words = c.body_words-body.ensures ∙ ap (words_in w) c.from-entry.ensures in
    let kind : c.from-entry.result.kind ≡ b.kind = ap (λ (b : Body). b.kind) c.from-entry.ensures in
    let text = rw kind at r.ensures.text in
    let size = ap length words in
    let s = lent_state l.file l.tables l.block l.copied l.held in
    record {
      at = at + b.size;
      stand = rest ts i at (length w) h l.invariant.stand;
      same_reference = r.ensures.text.same_reference ∙ l.invariant.same_reference;
      room = omega (arith, few, fits, size, r.ensures.room, added_room _ _ _ r.ensures.text, l.invariant.room);
      calls = calls_turn w b (bodies (drop (i + 1) ts)) _ words s _ (rw kind at r.ensures.state) _ (rw (bodies_more ts i h) at l.invariant.calls);
      due = prints_turn w b (bodies (drop (i + 1) ts)) _ words s _ (rw kind at r.ensures.state) _ _ _ text (rw (bodies_more ts i h) at l.invariant.due);
    }

pub returns : goal.returns
unfolding puts copy_prints calls_of run
returns c =
    let l = c.loop-triple in
    let ts = c.triples-triple-items.result.now in
    record {
      state = rw (bodies_none ts l.triple-index (omega arith)) at l.invariant.calls;
      text = record { same_reference = l.invariant.same_reference; after = rw (bodies_none ts l.triple-index (omega arith)) at l.invariant.due };
    }
