-- Demand 3 fails for hand-overs that take the block and the generation and leave the copy's tables, each time or from the second on: the
-- generations are then equal and the tables are not. The copy shades a lantern with the falloff before, black where the machine gives white, or
-- white where it gives black. Assumes nothing.
use Prim.Native.Nat.{ℕ}
use native.Mathlib.Omega.{arith}
use mathlib.Core.Path.{◌≡◌, refl, sym, ap, ◌∙◌, subst}
use mathlib.Core.List.{List, [], ◌∷◌, ◌++◌}
use lib.ListN.{length, get_or, replicate}
use lib.Dec.{lit<, lit≤}
use Rattle.decoding.specs.Read.{read}
use Rattle.block.specs.Block.{packed_reading}
use Rattle.refusals.specs.Refusals.{file_refusal, tables_refusal, register_refusal, saved_refusal, block_refusal}
use Rattle.tables.specs.Tables.{is_data, last, write_if, restore_if}
use Rattle.unit.specs.declared.Cache.{Cache}
use Rattle.unit.specs.Unit.{fresh_cache, refreshed, Handed}
use Rattle.unit.specs.DecodedLaws.{packed_length}
use Rattle.shading.specs.Shade.{Shaded}
use Rattle.block_shading.specs.BlockShading.{block_shading}
use Rattle.lists.specs.ShadesLaws.{block_shades_lem}
use Rattle.lists.specs.States.{State, unit_state, copy_state, state, fresh as fresh_state, Implementation}
use Rattle.lists.specs.Calls.{Call, step, run}
use Rattle.lists.specs.Calls.Call.{Write, Restore, HandOver}
use Rattle.lists.specs.Calls.Lent.{own}
use Rattle.lists.specs.Plain.{plain, plain_run, plain_step, zero_machine, accepts, does, plain_write}
use Rattle.lists.specs.Claim.{shade_from, ShadesAs, Demand3, EndsHandedOver, HandsOver}
use Rattle.lists.proofs.ReadCallLaws.{read_sound}
use Rattle.lists.specs.Wrong.{copying_no_tables, copies_no_tables, copying_tables_once, copies_tables_once}
use Rattle.lists.proofs.Refuted.{fresh_sound, hands_over_lem}
use Rattle.lists.proofs.Colours.{empty, ones, fragment, answer, lantern, colours}

abbrev write : ℕ → ℕ → Call
write register value = Write own own register value

abbrev restore : List ℕ → Call
restore saved = Restore own saved

abbrev hand_over : Call
hand_over = HandOver own own own own

-- the lantern's registers and tables in which its falloff is 1, handed over
abbrev scene : List Call
scene =
    write 0x08F 1 ∷ write 0x142 0xFF3_FCFF ∷ write 0x145 0x3C00 ∷ write 0x1C4 0xFEFF_FFFF ∷ restore ones ∷ hand_over ∷ []

-- and then tables in which it is 0, handed over
abbrev scenes : List Call
scenes = scene ++ restore empty ∷ hand_over ∷ []

-- the block of the lantern's registers
abbrev block : List ℕ
block = packed_reading (read lantern)

-- the cache that the first hand-over leaves
abbrev cache : Cache
cache = refreshed lantern fresh_cache

-- the copy has the unit's generation and tables of zeros
no_tables_after : run copies_no_tables (fresh_state fresh_cache 474) scene ≡ state (unit_state lantern ones 1 cache) (copy_state block empty 1)
unfolding run step fresh_state write_if restore_if last copying_no_tables file_refusal tables_refusal register_refusal saved_refusal block_refusal is_data
no_tables_after =
    ap (λ (w : Handed Cache). state (unit_state lantern ones 1 w.cache) (copy_state w.block empty w.generation))
    (hands_over_lem lantern ones 1 fresh_cache (replicate 328 0) empty 0 fresh_sound refl)

-- the copy has the unit's generation and the tables before
tables_once_after : run copies_tables_once (fresh_state fresh_cache 474) scenes ≡ state (unit_state lantern empty 2 (refreshed lantern cache)) (copy_state block ones 2)
unfolding run step fresh_state write_if restore_if last copying_no_tables copying_tables_once file_refusal tables_refusal register_refusal saved_refusal block_refusal is_data
tables_once_after =
    ap (λ (w : Handed Cache). run copies_tables_once (state (unit_state lantern ones 1 w.cache) (copy_state w.block w.tables w.generation)) (restore empty ∷ hand_over ∷ []))
    (hands_over_lem lantern ones 1 fresh_cache (replicate 328 0) empty 0 fresh_sound refl)
    ∙ ap (λ (w : Handed Cache). state (unit_state lantern empty 2 w.cache) (copy_state w.block ones w.generation))
    (hands_over_lem lantern empty 2 cache block ones 1 (read_sound lantern fresh_cache fresh_sound).1 (rw (packed_length (read lantern)) refl))

-- neither half of what demand 3 says after a list holds
record Apart (I : Implementation Cache) (calls : List Call) (s : State Cache) : Type 0 where
  same : (s.unit.generation ≡ s.copy.generation → s.unit.tables ≡ s.copy.tables) → ⊥
  shades : (EndsHandedOver 474 calls → ShadesAs I s.copy (plain 474 calls)) → ⊥

-- a copy with the lantern's block and the tables e, where the machine has the entries x
falloffs : (e x : List ℕ) → length e ≡ 12288 → block_shading block e fragment answer ≡ shade_from lantern x fragment answer → (shade_from lantern e fragment answer).answer ≡ (shade_from lantern x fragment answer).answer
falloffs e x n q =
    ap (λ (s : Shaded). s.answer) (sym (block_shades_lem lantern e fragment answer n refl refl) ∙ q)

first : {l m : List ℕ} → l ≡ m → get_or l 0 0 ≡ get_or m 0 0
first e = ap (λ (l : List ℕ). get_or l 0 0) e

no_tables_apart : Apart copies_no_tables scene (run copies_no_tables (fresh_state fresh_cache 474) scene)
unfolding EndsHandedOver HandsOver plain_run plain_step zero_machine accepts does plain_write is_data
no_tables_apart =
    subst (λ (s : State Cache). Apart copies_no_tables scene s) (sym no_tables_after)
    (record {
      same = λ h. omega (arith, first (h refl));
      shades =
          λ h.
          omega (arith, first (sym colours.unlit ∙ falloffs empty ones refl (h refl fragment answer refl refl) ∙ colours.lit));
    })

tables_once_apart : Apart copies_tables_once scenes (run copies_tables_once (fresh_state fresh_cache 474) scenes)
unfolding EndsHandedOver HandsOver plain_run plain_step zero_machine accepts does plain_write is_data
tables_once_apart =
    subst (λ (s : State Cache). Apart copies_tables_once scenes s) (sym tables_once_after)
    (record {
      same = λ h. omega (arith, first (h refl));
      shades =
          λ h.
          omega (arith, first (sym colours.lit ∙ falloffs ones empty refl (h refl fragment answer refl refl) ∙ colours.unlit));
    })

-- by the colours; the tables would do as well
no_tables_refuted : Demand3 copies_no_tables → ⊥
unfolding Demand3
no_tables_refuted d = no_tables_apart.shades (d 474 (lit≤ tt) scene (lit< tt)).shades

tables_once_refuted : Demand3 copies_tables_once → ⊥
unfolding Demand3
tables_once_refuted d = tables_once_apart.shades (d 474 (lit≤ tt) scenes (lit< tt)).shades
