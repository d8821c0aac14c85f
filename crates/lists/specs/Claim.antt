-- Demand 3: "a single claim about every list, not one for each call", said of an implementation. Definitions only.
use Rattle.std.specs.Prelude.{ℕ, ◌+◌, ◌≤◌, ◌<◌, ◌≡◌, List, [], ◌∷◌, true, length, eqb}
use Rattle.decoding.specs.Read.{read}
use Rattle.shading.specs.Shade.{Shaded}
use Rattle.block_shading.specs.BlockShading.{shaded_by}
use Rattle.lists.specs.States.{CopyState, State, fresh, Implementation}
use Rattle.lists.specs.Calls.{Call, run, answer}
use Rattle.lists.specs.Calls.Call.{Write, Restore, Read, HandOver}
use Rattle.lists.specs.Plain.{accepts, Machine, plain}

-- the call is an accepted hand-over
unfoldable pub HandsOver : ℕ → Call → Type 0
HandsOver n (Write f t r v) = ⊥
HandsOver n (Restore t saved) = ⊥
HandsOver n (Read f) = ⊥
HandsOver n (HandOver f t ct b) = accepts n (HandOver f t ct b) ≡ true

-- "a list that ends in an accepted hand-over"
unfoldable pub EndsHandedOver : ℕ → List Call → Type 0
EndsHandedOver n [] = ⊥
EndsHandedOver n (c ∷ []) = HandsOver n c
EndsHandedOver n (c ∷ d ∷ cs) = EndsHandedOver n (d ∷ cs)

-- "It returns 100 and leaves the answer untouched exactly when the machine's registers decode as off; else it returns 0, and the answer is the
-- eight k, in printed order, that the definition gives from the machine's registers and entries."
unfoldable pub shade_from : List ℕ → List ℕ → List ℕ → List ℕ → Shaded
shade_from registers entries fragment answer = shaded_by (read registers) entries fragment answer

module _ {C : Type 0} (I : Implementation C) where
  -- "block shading takes the copy's block and tables, 23 words of any bits and an answer of 8 words"
  abbrev pub ShadesAs : CopyState → Machine → Type 0
  ShadesAs c m =
      (fragment answer : List ℕ) → length fragment ≡ 23 → length answer ≡ 8 → I.block_shading c.block c.tables fragment answer ≡ shade_from m.registers m.entries fragment answer

  -- after a list, on a unit whose file has n words
  pub record After (n : ℕ) (calls : List Call) (s : State C) : Type 0 where
    -- at equal generations, the same entries: "Same entries are equal table slices, word for word."
    pub same : s.unit.generation ≡ s.copy.generation → s.unit.tables ≡ s.copy.tables
    pub shades : EndsHandedOver n calls → ShadesAs s.copy (plain n calls)

  -- every list of fewer than 2^64 calls, from a fresh unit with a file of any accepted length and a fresh copy
  unfoldable pub Demand3 : Type 0
  Demand3 =
      (n : ℕ) → 474 ≤ n → (calls : List Call) → length calls < 0x10000000000000000 → After n calls (run I (fresh I.empty_cache n) calls)

-- Beside it: within the bound a call returns 0 exactly when the plain machine accepts it, and neither 4 nor 7 is met.
pub record Answered (n : ℕ) (c : Call) (number : ℕ) : Type 0 where
  pub accepted : eqb number 0 ≡ accepts n c
  pub not_4 : number ≡ 4 → ⊥
  pub not_7 : number ≡ 7 → ⊥

unfoldable pub Answers : {C : Type 0} → Implementation C → Type 0
Answers I =
    (n : ℕ) → 474 ≤ n → (calls : List Call) (c : Call) → length calls + 1 < 0x10000000000000000 → Answered n c (answer I (run I (fresh I.empty_cache n) calls) c)
