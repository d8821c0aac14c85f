-- What the copy prints is what the plain machine prints: a kind 2 body's calls end in an accepted hand-over, after which demand 3's theorem gives
-- every fragment the machine's shading. And no more than 32 bytes are printed for each 23 words. Assumes nothing.
use Rattle.std.specs.Prelude.{ℕ, ◌+◌, ◌-◌, ◌*◌, ◌/◌, ◌≤◌, ◌<◌, ◌≡◌, Bool, Option, None, Some}
use Rattle.std.proofs.Common.{arith, le_refl, ap₂, length-append, eqb-true}
use Rattle.std.proofs.Math.Path.{refl, sym}
use mathlib.Core.List.{List, [], ◌∷◌, ◌++◌}
use Rattle.std.proofs.Math.Bool.{true, false, cond}
use Rattle.std.proofs.Math.ListN.{length}
use Rattle.std.proofs.Math.Dec.{eqb}
use Rattle.decoding.specs.Read.{read}
use Rattle.lighting.specs.declared.Lighting.{Lighting}
use Rattle.block_shading.specs.BlockShading.{shaded_by}
use Rattle.unit.specs.Unit.{fresh_cache}
use Rattle.lists.specs.States.{fresh}
use Rattle.lists.specs.Calls.{Call, run}
use Rattle.lists.specs.Ours.{ours}
use Rattle.lists.specs.Plain.{accepts, Machine, zero_machine, plain_step, plain_run, plain}
use Rattle.lists.specs.Claim.{HandsOver, EndsHandedOver, shade_from, Demand3}
use Rattle.lists.proofs.Demand3Laws.{every_list_shades_alike}
use Rattle.capture_check.specs.Contents.{Body, body_count, contents, contents_end, words_in, gapless, shaped}
use Rattle.capture_check.specs.ContentsLaws.{lies_end, gapless_head, gapless_rest, shaped_end, shaped-gapless, contents_count}
use Rattle.capture_lines.specs.Lines.{no_answer, fragment_lines, body_lines}
use Rattle.capture_lines.specs.Steps.{block_shades}
use Rattle.capture_lines.specs.LinesLaws.{lines_alike, body_fits}
use Rattle.block_shading.specs.FragmentsLaws.{eight_long}
use Rattle.capture_calls.specs.Capture.{hand_over_call, body_calls, machine_after, machine_shades, machine_prints}
use Rattle.capture_calls.specs.Steps.{after_body, after_lines, copy_prints}
use Rattle.capture_calls.proofs.CallLaws.{kind_2_hands_over, body_calls_few, words_in_few}
use Rattle.capture_calls.specs.RunLaws.{run_append}

plain_append : (m : Machine) (cs ds : List Call) → plain_run 474 m (cs ++ ds) ≡ plain_run 474 (plain_run 474 m cs) ds
unfolding plain_run
plain_append m [] ds = refl
plain_append m (c ∷ cs) ds = plain_append (plain_step 474 m c) cs ds

-- a list whose last call hands over
ends : (cs : List Call) → EndsHandedOver 474 (cs ++ (hand_over_call ∷ []))
unfolding EndsHandedOver HandsOver accepts
ends [] = refl
ends (c ∷ []) = refl
ends (c ∷ d ∷ cs) = ends (d ∷ cs)

-- the calls done, and then those of a body
abbrev and_then : List Call → ℕ → List ℕ → List Call
and_then done kind ws = done ++ body_calls kind ws

module _ (done : List Call) (kind : ℕ) (ws : List ℕ) (few : length done + length ws + 1 < 0x10000000000000000) where
  calls_few : length (and_then done kind ws) < 0x10000000000000000
  calls_few = rw length-append (omega (arith, body_calls_few kind ws))

  state_after : after_body (run ours (fresh fresh_cache 474) done) kind ws ≡ run ours (fresh fresh_cache 474) (and_then done kind ws)
  unfolding after_body
  state_after = sym (run_append ours (fresh fresh_cache 474) done (body_calls kind ws))

  machine_after_lem : machine_after (plain 474 done) kind ws ≡ plain 474 (and_then done kind ws)
  unfolding machine_after
  machine_after_lem = sym (plain_append zero_machine done (body_calls kind ws))

  -- a kind 2 body's end in its hand-over
  calls_end : kind ≡ 2 → EndsHandedOver 474 (and_then done kind ws)
  calls_end k = rw (k, kind_2_hands_over ws) (ends done)

  lines_same : after_lines (run ours (fresh fresh_cache 474) (and_then done kind ws)) kind ws ≡ body_lines (machine_shades (plain 474 (and_then done kind ws))) kind ws
  unfolding after_lines body_lines Demand3
  lines_same = go (eqb kind 2) refl
    where
      go : (b : Bool) → eqb kind 2 ≡ b → cond b (fragment_lines (block_shades (run ours (fresh fresh_cache 474) (and_then done kind ws)).copy.block (run ours (fresh fresh_cache 474) (and_then done kind ws)).copy.tables) (length ws / 23) ws) [] ≡ cond b (fragment_lines (machine_shades (plain 474 (and_then done kind ws))) (length ws / 23) ws) []
      go false e = refl
      go true e =
          lines_alike _ _
          (λ (q : List ℕ) (h : length q ≡ 23). (every_list_shades_alike 474 (le_refl 474) (and_then done kind ws) calls_few).shades (calls_end (eqb-true kind 2 e)) q no_answer h refl)
          (length ws / 23) ws (omega arith)

-- the bodies bs of the words w, which stand from `at` to the end
copy_prints_lem : (w : List ℕ) (bs : List Body) (done : List Call) (at end : ℕ) → gapless bs at end ≡ true → length done + (end - at) + length bs < 0x10000000000000000 → copy_prints w bs (run ours (fresh fresh_cache 474) done) ≡ machine_prints w bs (plain 474 done)
unfolding copy_prints machine_prints
copy_prints_lem w [] done at end g few = refl
copy_prints_lem w (b ∷ bs) done at end g few =
    let h : at + b.size ≤ end = lies_end b at end (gapless_head b bs at end g) in
    let n : length (words_in w b) ≤ b.size = words_in_few w b in
    let f : length done + length (words_in w b) + 1 < 0x10000000000000000 = omega arith in
    let m : length (and_then done b.kind (words_in w b)) ≤ length done + b.size + 1 = rw length-append (omega (arith, body_calls_few b.kind (words_in w b))) in
    rw (state_after done b.kind (words_in w b) f, machine_after_lem done b.kind (words_in w b) f)
    (ap₂ (λ (x y : List ℕ). x ++ y) (lines_same done b.kind (words_in w b) f)
    (copy_prints_lem w bs (and_then done b.kind (words_in w b)) (at + b.size) end (gapless_rest b bs at end g) (omega arith)))

-- of a capture's words whose form is right, on a fresh unit and a fresh copy
pub copy_prints_as_machine : (w : List ℕ) → length w ≤ 16384 → shaped w ≡ true → copy_prints w (contents w) (fresh fresh_cache 474) ≡ machine_prints w (contents w) zero_machine
unfolding run plain_run
copy_prints_as_machine w n s =
    copy_prints_lem w (contents w) [] (contents_end (body_count w)) (length w) (shaped-gapless w s) (omega (arith, contents_count w, shaped_end w s))

-- ---- no more than 32 bytes for each 23 words

machine_eight : (m : Machine) (q : List ℕ) → length (machine_shades m q).answer ≡ 8
unfolding shade_from shaded_by
machine_eight m q = go (read m.registers)
  where
    go : (d : Option Lighting) → length (shaded_by d m.entries q no_answer).answer ≡ 8
    go None = refl
    go (Some l) = eight_long l m.entries q

pub machine_fits : (w : List ℕ) (bs : List Body) (m : Machine) (at end : ℕ) → gapless bs at end ≡ true → length (machine_prints w bs m) ≤ 32 * ((end - at) / 23)
unfolding machine_prints
machine_fits w [] m at end g = omega arith
machine_fits w (b ∷ bs) m at end g =
    let h : at + b.size ≤ end = lies_end b at end (gapless_head b bs at end g) in
    let n : length (words_in w b) ≤ b.size = words_in_few w b in
    let after = machine_after m b.kind (words_in w b) in
    rw length-append
    (omega (arith, body_fits (machine_shades after) (machine_eight after) b.kind (words_in w b), machine_fits w bs after (at + b.size) end (gapless_rest b bs at end g)))
