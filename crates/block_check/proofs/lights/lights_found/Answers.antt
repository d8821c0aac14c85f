-- `lights::lights_found` meets its contract. The loop's invariant: what was found is that of the slots before this one, formed exactly if each of them is, and
-- then without a NaN's bit exactly if their words are numbers.
use Rattle.std.proofs.Common.{◌≡◌, ◌+◌, ◌<◌, ℕ, Bool, ◌&&◌, map, length, take, drop, get_or, add-one, arith, refl, sym, ap, ◌∙◌}
use Rattle.std.proofs.lemmas.Bool.{and_parts}
use Rattle.std.proofs.lemmas.Iterator.{YieldsList-from_slice, YieldsList-from_take}
use Rattle.std.proofs.lemmas.Iterator.Consumers.{YieldsList-turn, YieldsList-end}
use Rattle.std.proofs.lemmas.List.{get_or-take, length_push}
use Rattle.lighting.specs.Forms.{every}
use Rattle.lighting.specs.Lighting.{slot_of}
use Rattle.block.specs.Block.{words, from, slot_at, is_number}
use Rattle.block_check.specs.Steps.{light_formed, lights_formed, clear, found_formed}
use Rattle.block_check.proofs.Parts.{every_same, part_word, part_length, front_length, light_same}
use Rattle.block_check.proofs.lights.Lights.{lights_more}
use Rattle.block_check.proofs.lights.lights_found.Goals as goal

-- one slot more
more : (w v : ℕ → ℕ) (s : ℕ) (x : Bool) → x ≡ lights_formed w s → light_formed v ≡ light_formed (from w (slot_at (slot_of s))) → (x && light_formed v) ≡ lights_formed w (s + 1)
unfolding lights_formed every
more w v s x e f = rw (add-one, f) (ap (λ (b : Bool). b && light_formed (from w (slot_at (slot_of s)))) e)

pub loop-light-init : goal.loop-light-init
unfolding found_formed lights_formed every
loop-light-init g c =
    let ws = c.args.block.now in
    let value = g.W.Word.value in
    let long : length (take 4 (drop 36 ws)) ≡ 4 = part_length ws 36 4 (omega (arith, c.told-block)) in
    let first : clear c.with_rows-nans.result ≡ every 4 (λ k. is_number (words (map value (take 4 (drop 36 ws))) k)) = rw (c.as_slice.ensures, long, c.none.ensures) at c.with_rows-nans.ensures in
    record {
      formed = refl;
      nans = λ h. first ∙ every_same 4 _ (λ k. is_number (words (map value ws) (36 + k))) (λ k m. ap is_number (part_word value ws 36 4 k m));
    }

pub loop-light-preserved : goal.loop-light-preserved
loop-light-preserved g c =
    let l = c.loop-light in
    let s = length l.yielded in
    let slots = c.slots_of.result.now in
    let value = g.W.Word.value in
    let w = words (map value c.args.block.now) in
    let v = words (map value c.in-Some.light.now) in
    let t = YieldsList-turn (YieldsList-from_take c.args.count (YieldsList-from_slice slots cc) cc) l.yielded _ l.yielded_by _ _ c.in-Some.light c.in-Some.is c.next.ensures.steps in
    let long : length (take c.args.count slots) ≡ c.args.count = front_length slots c.args.count (omega (arith, c.slots_of.ensures.eight, c.requires)) in
    let few : s < c.args.count = omega (arith, t.0, long) in
    let is : get_or slots s c.in-Some.light.now ≡ c.in-Some.light.now = sym (rw (get_or-take c.args.count slots s c.in-Some.light.now few) at t.1) in
    let same : (k : ℕ) → k < 36 → v k ≡ w (slot_at (slot_of s) + k) = λ k m. rw is at (c.slots_of.ensures.same s k c.in-Some.light.now (omega (arith, few, c.requires)) m) in
    let found = c.with_light-found.ensures.formed in
    rw (length_push l.yielded c.in-Some.light)
    (record {
      formed = rw found (more w v s _ l.invariant.formed (light_same v (from w (slot_at (slot_of s))) same));
      nans = λ h.
          let both = and_parts (found_formed l.found) (light_formed v) (rw found at h) in
          lights_more w v s _ _ both.1 same (l.invariant.nans both.0) c.with_light-found.ensures.nans;
    })

pub returns : goal.returns
returns g c =
    let l = c.loop-light in
    let slots = c.slots_of.result.now in
    let t = YieldsList-end (YieldsList-from_take c.args.count (YieldsList-from_slice slots cc) cc) l.yielded _ l.yielded_by _ _ c.in-None.is c.next.ensures.steps in
    let long : length (take c.args.count slots) ≡ c.args.count = front_length slots c.args.count (omega (arith, c.slots_of.ensures.eight, c.requires)) in
    let e : length l.yielded ≡ c.args.count = rw t.1 long in
    record { formed = rw e at l.invariant.formed; nans = rw e at l.invariant.nans }
