-- For tests alone: hand-overs of two register files in turn. Definitions only.
use Rattle.std.specs.Prelude.{ℕ, zero, suc, List}
use Rattle.unit.specs.Unit.{Handed, handed, hand_over}
use Rattle.unit.specs.declared.Cache.{Cache}

-- a hand-over from what the last one left
unfoldable pub next : List ℕ → List ℕ → ℕ → Handed Cache → Handed Cache
next f t g h = hand_over f t g h.cache h.block h.tables h.generation

-- file and other, the unit's tables, its generation at the first and at the second of each pair; how many pairs
unfoldable pub hand_overs : List ℕ → List ℕ → List ℕ → ℕ → ℕ → ℕ → Handed Cache → Handed Cache
hand_overs f o t g k zero h = h
hand_overs f o t g k (suc n) h = hand_overs f o t g k n (next o t k (next f t g h))

-- what is told of them: the last one's number, and the copy's block, tables and generation
pub record Copied : Type 0 where
  pub number : ℕ
  pub block : List ℕ
  pub tables : List ℕ
  pub generation : ℕ

abbrev pub copied : ℕ → List ℕ → List ℕ → ℕ → Copied
copied n b t g = record { number = n; block = b; tables = t; generation = g }

abbrev pub copy_of : Handed Cache → Copied
copy_of h = copied h.number h.block h.tables h.generation
