-- The register file, the tables and their generation: register write, upload, a list of writes, restore, save and lookup. To be read beside "The write arrives", "Table
-- upload" and "Refusals by operation" of document 01, whose sentences are quoted, and beside `Tables` of the Rust. Definitions only.
-- A register file f and a table slice t are lists of words; `get_or t i 0` is t[i], and `set t i w` is t with the word w at i.
-- From elsewhere: the bits of an uploaded word's value and step (fields), a word as a float (binary32), and the refusals by length and register.
use Rattle.std.specs.Prelude.{ℕ, zero, suc, ◌+◌, ◌-◌, ◌*◌, ◌/◌, ◌%◌, Bool, true, false, cond, not, ◌&&◌, List, [], ◌∷◌, length, ◌==◌, nat_le, nat_lt, slice_index, slice_set, Float, Result, Ok, Err}
use Rattle.std.specs.Float.{binary32}
use Rattle.std.specs.Float.Ieee.{add, mul}
use Rattle.refusals.specs.Refusals.{number_of, outcome_number, file_refusal, tables_refusal, register_refusal, saved_refusal, ◌else◌}
use Rattle.refusals.specs.declared.Refusal.{Refusal}
use Rattle.binary32.specs.Binary32.{float_of}
use Rattle.fields.specs.Fields.{upload_value_bits, upload_step_bits}
use Rattle.tables.specs.declared.WrittenEach.{WrittenEach}

-- ---- The entry that register 1C5 names

-- "24 tables of 256 entries, each entry value bits then step bits": where a table's entry has its value bits; its step bits stand next
abbrev pub entry_place : ℕ → ℕ → ℕ
entry_place table entry = 2 * (256 * table + entry)

-- the word of 1C5 in the register file f
abbrev pub index : List ℕ → ℕ
index f = slice_index f 0x1C5

-- "Register 1C5 names the entry in bits 0–7": of its word i
abbrev pub entry_of : ℕ → ℕ
entry_of i = i % 256

-- "and the table in bits 8–12"
abbrev pub table_of : ℕ → ℕ
table_of i = i / 256 % 32

unfoldable pub place : ℕ → ℕ
place i = entry_place (table_of i) (entry_of i)

-- "the entry byte of 1C5 moves on by one, 255 going to 0 without touching the bits above"
unfoldable pub moved : ℕ → ℕ
moved i = i - entry_of i + (entry_of i + 1) % 256

abbrev pub moved_on : List ℕ → List ℕ
moved_on f = slice_set f 0x1C5 (moved (index f))

-- ---- Upload of the word v

-- the tables t with the value and step bits of v in the entry that i names
unfoldable pub put_entry : List ℕ → ℕ → ℕ → List ℕ
put_entry t i v = slice_set (slice_set t (place i) (upload_value_bits v)) (place i + 1) (upload_step_bits v)

-- "Tables 24 to 31 store nothing."
unfoldable pub stored : ℕ → Bool
stored i = nat_lt (table_of i) 24

unfoldable pub put : List ℕ → ℕ → ℕ → List ℕ
put t i v = cond (stored i) (put_entry t i v) t

-- the entry has these bits already, compared as bits, so that −0 is not +0
unfoldable pub same_entry : List ℕ → ℕ → ℕ → Bool
same_entry t i v =
    (slice_index t (place i) == upload_value_bits v) && slice_index t (place i + 1) == upload_step_bits v

unfoldable pub changes : List ℕ → ℕ → ℕ → Bool
changes t i v = stored i && not (same_entry t i v)

-- "An entry whose bits change raises the generation by 1; equal bits don't."
abbrev pub raised : Bool → ℕ → ℕ
raised true g = g + 1
raised false g = g

-- the generation 2^64 − 1, which cannot rise
unfoldable pub last : ℕ → Bool
last g = g == 0xFFFFFFFFFFFFFFFF

-- ---- Register write

-- what a write gives: 0 or the refusal's number, and the file, the tables and the generation afterwards
pub record Wrote : Type 0 where
  pub number : ℕ
  pub file : List ℕ
  pub tables : List ℕ
  pub generation : ℕ

abbrev pub wrote : ℕ → List ℕ → List ℕ → ℕ → Wrote
wrote k f t g = record { number = k; file = f; tables = t; generation = g }

-- "4 generation 2^64−1 and an entry would change"; "In every accepted case the entry byte of 1C5 moves on"
unfoldable pub upload : List ℕ → List ℕ → ℕ → ℕ → Wrote
upload f t g v =
    cond (changes t (index f) v && last g)
    (wrote 4 f t g)
    (wrote 0 (moved_on f) (put t (index f) v) (raised (changes t (index f) v) g))

-- "registers 1C8 to 1CF are table data, not stored as registers"
unfoldable pub is_data : ℕ → Bool
is_data r = nat_le 0x1C8 r && nat_le r 0x1CF

-- "1 file under 474 words; 2 table slice not 12,288; 3 register 474 (decimal) or above": by the number of words of file and tables
abbrev pub write_refusal : ℕ → ℕ → ℕ → ℕ
write_refusal file tables register =
    file_refusal file else tables_refusal tables else register_refusal register

-- past these, "A write replaces the whole word"; "A refusal returns its number and changes no slice, state or cache."
unfoldable pub write_if : ℕ → List ℕ → List ℕ → ℕ → ℕ → ℕ → Wrote
write_if zero f t g r v = cond (is_data r) (upload f t g v) (wrote 0 (slice_set f r v) t g)
write_if (suc k) f t g r v = wrote (suc k) f t g

-- of the word v to register r: file, tables, generation; register, value
abbrev pub write : List ℕ → List ℕ → ℕ → ℕ → ℕ → Wrote
write f t g r v = write_if (write_refusal (length f) (length t) r) f t g r v

-- what an answer says, where the call found the generation g and left the file f and the tables t
abbrev pub wrote_of : Result ℕ Refusal → ℕ → List ℕ → List ℕ → Wrote
wrote_of (Err k) g f t = wrote (number_of k) f t g
wrote_of (Ok h) g f t = wrote 0 f t h

-- ---- A list of writes, one after another, up to the first that is refused

-- what it gives: 0 or that write's number, how many were made before it, and the file, the tables and the generation after those
pub record Writes : Type 0 where
  pub number : ℕ
  pub done : ℕ
  pub file : List ℕ
  pub tables : List ℕ
  pub generation : ℕ

abbrev pub writes : ℕ → ℕ → List ℕ → List ℕ → ℕ → Writes
writes k n f t g = record { number = k; done = n; file = f; tables = t; generation = g }

-- n were made before the write w
unfoldable pub counted : ℕ → Wrote → Writes
counted n w = writes w.number (cond (w.number == 0) (n + 1) n) w.file w.tables w.generation

-- one more, unless one was refused
unfoldable pub then_write : Writes → ℕ → ℕ → Writes
then_write s r v = cond (s.number == 0) (counted s.done (write s.file s.tables s.generation r v)) s

-- pairs of register and value
unfoldable pub write_each : Writes → List ℕ → Writes
write_each s [] = s
write_each s (r ∷ []) = s
write_each s (r ∷ v ∷ rest) = write_each (then_write s r v) rest

-- what an answer says, where the call left the file f and the tables t
abbrev pub writes_of : WrittenEach → List ℕ → List ℕ → Writes
writes_of r f t = writes (outcome_number r.outcome) r.done f t r.generation

-- ---- Restore

-- what a restore gives: 0 or the refusal's number, and the tables and the generation afterwards
pub record Restored : Type 0 where
  pub number : ℕ
  pub tables : List ℕ
  pub generation : ℕ

abbrev pub restored : ℕ → List ℕ → ℕ → Restored
restored k t g = record { number = k; tables = t; generation = g }

-- "2; 5 saved words not 12,288": by the number of words of the tables
abbrev pub restore_refusal : ℕ → List ℕ → ℕ
restore_refusal tables saved = tables_refusal tables else saved_refusal (length saved)

-- past these, "4 generation 2^64−1"; else it "copies them all and always raises the generation by 1"
unfoldable pub restore_if : ℕ → List ℕ → ℕ → List ℕ → Restored
restore_if zero t g saved = cond (last g) (restored 4 t g) (restored 0 saved (g + 1))
restore_if (suc k) t g saved = restored (suc k) t g

-- tables, generation; saved words
abbrev pub restore : List ℕ → ℕ → List ℕ → Restored
restore t g saved = restore_if (restore_refusal (length t) saved) t g saved

-- what an answer says, where the call found the generation g and left the tables t
abbrev pub restored_of : Result ℕ Refusal → ℕ → List ℕ → Restored
restored_of (Err k) g t = restored (number_of k) t g
restored_of (Ok h) g t = restored 0 t h

-- ---- Save

-- what a save gives: 0 or the refusal's number, and the output afterwards
pub record Saved : Type 0 where
  pub number : ℕ
  pub output : List ℕ

abbrev pub saved : ℕ → List ℕ → Saved
saved k s = record { number = k; output = s }

-- "2; 5 output not 12,288": by the number of words of the tables and of the output
abbrev pub save_refusal : ℕ → ℕ → ℕ
save_refusal tables output = tables_refusal tables else saved_refusal output

-- past these, "Save yields the same words."
unfoldable pub save_if : ℕ → List ℕ → List ℕ → Saved
save_if zero t s = saved 0 t
save_if (suc k) t s = saved (suc k) s

-- tables; output
abbrev pub save : List ℕ → List ℕ → Saved
save t s = save_if (save_refusal (length t) (length s)) t s

-- what an answer says, where the call left the output s
abbrev pub saved_of : Result (Unit {0}) Refusal → List ℕ → Saved
saved_of o s = saved (outcome_number o) s

-- ---- Lookup

-- value + step · delta, of an entry's two words, each operation rounded once
unfoldable pub interpolated : ℕ → ℕ → Float → Float
interpolated value step delta = add binary32 (float_of value) (mul binary32 (float_of step) delta)

-- in the tables t, at a table and an entry; a word that t does not have counts as 0
unfoldable pub table_lookup : List ℕ → ℕ → ℕ → Float → Float
table_lookup t table entry delta =
    interpolated (slice_index t (entry_place table entry)) (slice_index t (entry_place table entry + 1)) delta
