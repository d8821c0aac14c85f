-- Demand 3 fails for the wrong implementations: each has a list after which block shading answers otherwise than the machine's registers and
-- entries ask. Assumes nothing.
use Prim.Native.Nat.{ℕ}
use Rattle.std.specs.Prelude.{Option, None, Some, is_some}
use native.Mathlib.Omega.{arith}
use mathlib.Core.Path.{◌≡◌, refl, sym, ap, ◌∙◌}
use mathlib.Core.List.{List, [], ◌∷◌}
use mathlib.Core.Bool.{true, false, cond, false≢true}
use lib.ListN.{length, set, replicate}
use lib.Dec.{eqb, lit<, lit≤}
use Rattle.lighting.specs.declared.Lighting.{Lighting}
use Rattle.decoding.specs.Read.{read}
use Rattle.block.specs.Block.{packed_reading}
use Rattle.refusals.specs.Refusals.{file_refusal, tables_refusal, saved_refusal, block_refusal}
use Rattle.tables.specs.Tables.{is_data, last, restore_if}
use Rattle.unit.specs.declared.Cache.{Cache}
use Rattle.unit.specs.Unit.{fresh_cache, refreshed, Handed, handed, hand_over_refusal, taken, hand_over_read, hand_over_if}
use Rattle.unit.specs.DecodedLaws.{decoded_packable}
use Rattle.shading.specs.Shade.{Shaded}
use Rattle.block_shading.specs.BlockShading.{shaded_by, block_shading}
use Rattle.lists.specs.ShadesLaws.{block_shades_lem}
use Rattle.lists.specs.States.{State, fresh}
use Rattle.lists.specs.Calls.{Call, step, run}
use Rattle.lists.specs.Calls.Call.{Write, Restore, HandOver}
use Rattle.lists.specs.Calls.Lent.{own}
use Rattle.lists.specs.Plain.{plain_run, plain_step, zero_machine, accepts, does, plain_write}
use Rattle.lists.specs.Claim.{shade_from, Demand3, EndsHandedOver, HandsOver}
use Rattle.lists.specs.Invariant.{Sound}
use Rattle.lists.proofs.ReadCallLaws.{read_sound}
use Rattle.lists.specs.Wrong.{refuses_writes, paints_one, copying_nothing, copies_nothing, copying_once, copies_once}

-- a fresh unit's lighting is off, and on once bit 0 of 8F is set
fresh_off : is_some (read (replicate 474 0)) ≡ false
unfolding read
fresh_off = refl

switched_on : is_some (read (set (replicate 474 0) 0x08F 1)) ≡ true
unfolding read
switched_on = refl

-- the number that block shading is to answer with
pub shade_on : (r e q a : List ℕ) → is_some (read r) ≡ true → (shade_from r e q a).number ≡ 0
unfolding shade_from shaded_by
shade_on r e q a h = go (read r) h
  where
    go : (d : Option Lighting) → is_some d ≡ true → (shaded_by d e q a).number ≡ 0
    go None h = absurd (false≢true h)
    go (Some l) h = refl

shade_off : (r e q a : List ℕ) → is_some (read r) ≡ false → (shade_from r e q a).number ≡ 100
unfolding shade_from shaded_by
shade_off r e q a h = go (read r) h
  where
    go : (d : Option Lighting) → is_some d ≡ false → (shaded_by d e q a).number ≡ 100
    go None h = refl
    go (Some l) h = absurd (false≢true (sym h))

-- a lighting that is off leaves a block of zeros
packed_off : (f : List ℕ) → is_some (read f) ≡ false → packed_reading (read f) ≡ replicate 328 0
unfolding packed_reading
packed_off f h = go (read f) h
  where
    go : (d : Option Lighting) → is_some d ≡ false → packed_reading d ≡ replicate 328 0
    go None h = refl
    go (Some l) h = absurd (false≢true (sym h))

pub fresh_sound : Sound fresh_cache
unfolding fresh_cache
fresh_sound f e = absurd (false≢true (ap is_some e))

-- a hand-over that no length refuses, from a sound cache: the copy takes the block, and at another generation the tables and the generation
pub hands_over_lem : (f t : List ℕ) (g : ℕ) (c : Cache) (b ct : List ℕ) (cg : ℕ) → Sound c → hand_over_refusal (length f) (length t) (length ct) (length b) ≡ 0 → hand_over_if (hand_over_refusal (length f) (length t) (length ct) (length b)) f t g c b ct cg ≡ cond (eqb g cg) (handed 0 (refreshed f c) (packed_reading (read f)) ct cg) (handed 0 (refreshed f c) (packed_reading (read f)) t g)
unfolding hand_over_if hand_over_read taken
hands_over_lem f t g c b ct cg sound passed = rw (passed, (read_sound f c sound).0, decoded_packable f) refl

hand_over : Call
hand_over = HandOver own own own own

-- lighting is switched on
switch_on : Call
switch_on = Write own own 0x08F 1

restoring : Call
restoring = Restore own (replicate 12288 0)

-- a fragment and an answer
fragment : List ℕ
fragment = replicate 23 0

answer : List ℕ
answer = replicate 8 0

-- block shading of zeros
zeros_off : (b e : List ℕ) → b ≡ replicate 328 0 → length e ≡ 12288 → (block_shading b e fragment answer).number ≡ 100
unfolding fragment answer
zeros_off b e h n =
    rw (h, ← (packed_off (replicate 474 0) fresh_off))
    (ap (λ (s : Shaded). s.number) (block_shades_lem (replicate 474 0) e fragment answer n refl refl) ∙ shade_off (replicate 474 0) e fragment answer fresh_off)

-- a copy of zeros while the machine's lighting is on
stale : (b e r x : List ℕ) → b ≡ replicate 328 0 → length e ≡ 12288 → is_some (read r) ≡ true → block_shading b e fragment answer ≡ shade_from r x fragment answer → ⊥
stale b e r x h n o q =
    omega (arith, sym (zeros_off b e h n) ∙ ap (λ (s : Shaded). s.number) q ∙ shade_on r x fragment answer o)

refuses_refuted : Demand3 refuses_writes → ⊥
unfolding Demand3 EndsHandedOver HandsOver run step fresh file_refusal tables_refusal block_refusal plain_run plain_step zero_machine accepts does plain_write is_data hand_over switch_on fragment answer
refuses_refuted d =
    let after = d 474 (lit≤ tt) (switch_on ∷ hand_over ∷ []) (lit< tt) in
    let h = hands_over_lem (replicate 474 0) (replicate 12288 0) 0 fresh_cache (replicate 328 0) (replicate 12288 0) 0 fresh_sound refl in
    stale _ _ (set (replicate 474 0) 0x08F 1) (replicate 12288 0)
    (ap (λ (w : Handed Cache). w.block) h ∙ packed_off (replicate 474 0) fresh_off)
    (ap (λ (w : Handed Cache). length w.tables) h)
    switched_on
    (after.shades refl fragment answer refl refl)

nothing_refuted : Demand3 copies_nothing → ⊥
unfolding Demand3 EndsHandedOver HandsOver run step fresh copying_nothing plain_run plain_step zero_machine accepts does plain_write is_data hand_over switch_on fragment answer
nothing_refuted d =
    let after = d 474 (lit≤ tt) (switch_on ∷ hand_over ∷ []) (lit< tt) in
    stale (replicate 328 0) (replicate 12288 0) (set (replicate 474 0) 0x08F 1) (replicate 12288 0) refl refl switched_on (after.shades refl fragment answer refl refl)

-- a hand-over that copies only the first time leaves a copy whose generation is not 0
once_block : (s : State Cache) → eqb s.copy.generation 0 ≡ false → (step copies_once s hand_over).copy.block ≡ s.copy.block
unfolding step hand_over copying_once copying_nothing
once_block s e = rw e refl

once_tables : (s : State Cache) → eqb s.copy.generation 0 ≡ false → (step copies_once s hand_over).copy.tables ≡ s.copy.tables
unfolding step hand_over copying_once copying_nothing
once_tables s e = rw e refl

-- the first hand-over copies a block of zeros, after a restore of zeros; the second, once lighting is on, copies nothing
once_refuted : Demand3 copies_once → ⊥
unfolding Demand3 EndsHandedOver HandsOver run step fresh restore_if last file_refusal tables_refusal saved_refusal block_refusal copying_once plain_run plain_step zero_machine accepts does plain_write is_data hand_over switch_on restoring fragment answer
once_refuted d =
    let file : List ℕ = replicate 474 0 in
    let tables : List ℕ = replicate 12288 0 in
    let block : List ℕ = replicate 328 0 in
    let first : State Cache = run copies_once (fresh fresh_cache 474) (restoring ∷ hand_over ∷ []) in
    let lit : State Cache = step copies_once first switch_on in
    let after = d 474 (lit≤ tt) (restoring ∷ hand_over ∷ switch_on ∷ hand_over ∷ []) (lit< tt) in
    let h = hands_over_lem file tables 1 fresh_cache block tables 0 fresh_sound refl in
    let g : eqb first.copy.generation 0 ≡ false = ap (λ (w : Handed Cache). eqb w.generation 0) h in
    stale (step copies_once lit hand_over).copy.block (step copies_once lit hand_over).copy.tables (set file 0x08F 1) tables
    (once_block lit g ∙ ap (λ (w : Handed Cache). w.block) h ∙ packed_off file fresh_off)
    (ap length (once_tables lit g ∙ ap (λ (w : Handed Cache). w.tables) h))
    switched_on
    (after.shades refl fragment answer refl refl)

-- a list that leaves the lighting off
paints_refuted : (colours : List ℕ) → Demand3 (paints_one colours) → ⊥
unfolding Demand3 EndsHandedOver HandsOver plain_run plain_step zero_machine accepts does hand_over fragment answer
paints_refuted colours d =
    let after = d 474 (lit≤ tt) (hand_over ∷ []) (lit< tt) in
    let e = after.shades refl fragment answer refl refl in
    omega (arith, ap (λ (s : Shaded). s.number) e ∙ shade_off (replicate 474 0) (replicate 12288 0) fragment answer fresh_off)
