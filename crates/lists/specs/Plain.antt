-- The plain machine of demand 3: "It holds 474 registers and 6144 entries, all zero", and "has no cache, generation or copy". Definitions only.
use Rattle.std.specs.Prelude.{ℕ, List, [], ◌∷◌, Bool, ◌&&◌, length, get_or, set, replicate, ltb, leb, eqb, if◌then◌else◌}
use Rattle.tables.specs.Tables.{is_data, moved, put}
use Rattle.lists.specs.Calls.{Call, Lent}
use Rattle.lists.specs.Calls.Call.{Write, Restore, Read, HandOver}
use Rattle.lists.specs.Calls.Lent.{own, instead}

-- It "is fed each call's arguments, of unit and copy only their slices' lengths": the length of what is lent, where the slice of unit or copy
-- has n words.
abbrev pub size : {Refused : ℕ → Type 0} → ℕ → Lent Refused → ℕ
size n own = n
size n (instead s h) = length s

-- "Refusals by operation", with "4 and 7 .. left out": "A call not so refused is accepted." The unit's file has n words; its tables and the
-- copy's slices have their only lengths.
unfoldable pub accepts : ℕ → Call → Bool
-- "1 file under 474 words; 2 table slice not 12,288; 3 register 474 (decimal) or above"
accepts n (Write f t r v) = leb 474 (size n f) && (eqb (size 12288 t) 12288 && ltb r 474)
-- "2; 5 saved words not 12,288"
accepts n (Restore t saved) = eqb (size 12288 t) 12288 && eqb (length saved) 12288
-- "Read and cached read: 1."
accepts n (Read f) = leb 474 (size n f)
-- "1; 2 unit's tables, then copy's; 6"
accepts n (HandOver f t ct b) =
    leb 474 (size n f) && (eqb (size 12288 t) 12288 && (eqb (size 12288 ct) 12288 && eqb (size 328 b) 328))

-- an entry is two words, its value bits and its step bits
pub record Machine : Type 0 where
  pub registers : List ℕ
  pub entries : List ℕ

abbrev pub machine : List ℕ → List ℕ → Machine
machine r e = record { registers = r; entries = e }

unfoldable pub zero_machine : Machine
zero_machine = machine (replicate 474 0) (replicate 12288 0)

-- "A write to 1C8–1CF puts its value and step bits into the entry that the machine's 1C5 names, or nowhere for tables 24 to 31, and moves 1C5
-- on as above. Any other write puts the word into its register."
unfoldable pub plain_write : Machine → ℕ → ℕ → Machine
plain_write m r v =
    let index = get_or m.registers 0x1C5 0 in
    if is_data r then machine (set m.registers 0x1C5 (moved index)) (put m.entries index v)
    else machine (set m.registers r v) m.entries

-- what an accepted call does
unfoldable pub does : Machine → Call → Machine
does m (Write f t r v) = plain_write m r v
-- "A restore replaces every entry with its saved words."
does m (Restore t saved) = machine m.registers saved
-- "Cached reads and hand-overs change nothing."
does m (Read f) = m
does m (HandOver f t ct b) = m

-- "Nor does a call that Refusals by operation refuses"
unfoldable pub plain_step : ℕ → Machine → Call → Machine
plain_step n m c = if accepts n c then does m c else m

unfoldable pub plain_run : ℕ → Machine → List Call → Machine
plain_run n m [] = m
plain_run n m (c ∷ cs) = plain_run n (plain_step n m c) cs

-- after a list of calls, on a unit whose file has n words
abbrev pub plain : ℕ → List Call → Machine
plain n calls = plain_run n zero_machine calls
