-- Demand 3 fails for a shader that paints one colour wherever the lighting is on: two lists end in lightings that are on, and the definition gives
-- black after one and white after the other. Assumes nothing.
use Prim.Native.Nat.{ℕ}
use Rattle.std.specs.Prelude.{is_some}
use native.Mathlib.Omega.{arith}
use mathlib.Core.Path.{◌≡◌, refl, sym, ap, ◌∙◌}
use mathlib.Core.List.{List, [], ◌∷◌}
use mathlib.Core.Bool.{true}
use lib.ListN.{length, get_or, replicate}
use lib.Dec.{lit<, lit≤}
use Rattle.decoding.specs.Read.{read}
use Rattle.block.specs.Block.{packed_reading}
use Rattle.shading.specs.Shade.{Shaded}
use Rattle.block_shading.specs.BlockShading.{block_shading}
use Rattle.refusals.specs.Refusals.{file_refusal, tables_refusal, register_refusal, block_refusal}
use Rattle.tables.specs.Tables.{is_data, write_if}
use Rattle.unit.specs.Unit.{fresh_cache, Handed}
use Rattle.unit.specs.declared.Cache.{Cache}
use Rattle.lists.specs.ShadesLaws.{block_shades_lem}
use Rattle.lists.specs.States.{fresh as fresh_state}
use Rattle.lists.specs.Calls.{Call, step, run}
use Rattle.lists.specs.Calls.Call.{Write, HandOver}
use Rattle.lists.specs.Calls.Lent.{own}
use Rattle.lists.specs.Plain.{plain_run, plain_step, zero_machine, accepts, does, plain_write}
use Rattle.lists.specs.Claim.{shade_from, Demand3, EndsHandedOver, HandsOver}
use Rattle.lists.specs.Wrong.{painted, paints_lit}
use Rattle.lists.proofs.Refuted.{shade_on, fresh_sound, hands_over_lem}
use Rattle.lists.proofs.Colours.{empty, fragment, answer, dark, bright, colours}

-- a shader that paints one colour, from the block of a lighting that is on
paints : (cs b e r x : List ℕ) → b ≡ packed_reading (read r) → length e ≡ 12288 → is_some (read r) ≡ true → painted cs (block_shading b e fragment answer) ≡ shade_from r x fragment answer → cs ≡ (shade_from r x fragment answer).answer
unfolding painted
paints cs b e r x h n o q =
    let k : (block_shading b e fragment answer).number ≡ 0 =
    rw h (ap (λ (s : Shaded). s.number) (block_shades_lem r e fragment answer n refl refl) ∙ shade_on r e fragment answer o) in
    ap (λ (s : Shaded). s.answer) (rw k at q)

write : ℕ → ℕ → Call
write register value = Write own own register value

hand_over : Call
hand_over = HandOver own own own own

dark-on : is_some (read dark) ≡ true
unfolding read
dark-on = refl

bright-on : is_some (read bright) ≡ true
unfolding read
bright-on = refl

lit_paints_refuted : (cs : List ℕ) → Demand3 (paints_lit cs) → ⊥
unfolding Demand3 EndsHandedOver HandsOver run step fresh_state write_if file_refusal tables_refusal register_refusal block_refusal plain_run plain_step zero_machine accepts does plain_write is_data write hand_over
lit_paints_refuted cs d =
    let first = d 474 (lit≤ tt) (write 0x08F 1 ∷ write 0x1C4 0xFFFF_FFFF ∷ hand_over ∷ []) (lit< tt) in
    let second = d 474 (lit≤ tt) (write 0x08F 1 ∷ write 0x1C4 0xFFFF_FFFF ∷ write 0x1C0 0xFF3_FCFF ∷ hand_over ∷ []) (lit< tt) in
    let h = hands_over_lem dark empty 0 fresh_cache (replicate 328 0) empty 0 fresh_sound refl in
    let k = hands_over_lem bright empty 0 fresh_cache (replicate 328 0) empty 0 fresh_sound refl in
    let black : cs ≡ 0 ∷ 0 ∷ 0 ∷ 255 ∷ 0 ∷ 0 ∷ 0 ∷ 255 ∷ [] =
    paints cs _ _ dark empty (ap (λ (w : Handed Cache). w.block) h) (ap (λ (w : Handed Cache). length w.tables) h) dark-on (first.shades refl fragment answer refl refl) ∙ colours.black in
    let white : cs ≡ 255 ∷ 255 ∷ 255 ∷ 255 ∷ 0 ∷ 0 ∷ 0 ∷ 255 ∷ [] =
    paints cs _ _ bright empty (ap (λ (w : Handed Cache). w.block) k) (ap (λ (w : Handed Cache). length w.tables) k) bright-on (second.shades refl fragment answer refl refl) ∙ colours.white in
    omega (arith, ap (λ (l : List ℕ). get_or l 0 0) (sym black ∙ white))
