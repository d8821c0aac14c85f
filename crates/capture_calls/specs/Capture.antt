-- What a capture does and prints. "Bodies run in order on a fresh unit and a fresh copy": first the calls that a body makes, then what the plain machine of demand 3 prints after
-- them, then what is printed of an input's bytes, then what the library call answers. `Contents` of capture_check has bodies and refusals, `Lines` of capture_lines the lines.
-- Definitions only.
use Rattle.std.specs.Prelude.{ℕ, zero, suc, List, [], ◌∷◌, ◌++◌, cond, eqb, leb, length, drop, Option, None, Some, Result, Ok, Err}
use Rattle.std.specs.Option.{unwrap_or}
use Rattle.refusals.specs.Refusals.{number_of, ◌else◌}
use Rattle.refusals.specs.declared.Refusal.{Refusal}
use Rattle.sources.specs.Sources.{words_of}
use Rattle.shading.specs.Shade.{Shaded}
use Rattle.lists.specs.Calls.{Call}
use Rattle.lists.specs.Calls.Call.{Write, Restore, HandOver}
use Rattle.lists.specs.Calls.Lent.{own}
use Rattle.lists.specs.Plain.{Machine, plain_run, zero_machine}
use Rattle.lists.specs.Claim.{shade_from}
use Rattle.printing.specs.Printing.{refused_line}
use Rattle.capture_check.specs.Contents.{Body, words_in, contents, capture_refusal}
use Rattle.capture_lines.specs.Lines.{no_answer, body_lines}
use Rattle.capture_calls.specs.declared.Answer.{Answer}

-- ---- the calls of a body

-- "Kind 1: register, value pairs."
unfoldable pub pair_calls : List ℕ → List Call
pair_calls [] = []
pair_calls (r ∷ []) = []
pair_calls (r ∷ v ∷ rest) = Write own own r v ∷ pair_calls rest

-- "kind 2 first hands over, even with no fragment"
abbrev pub hand_over_call : Call
hand_over_call = HandOver own own own own

-- "Kind 3: a restore of 12,288."
abbrev pub restore_call : List ℕ → Call
restore_call saved = Restore own saved

-- of a body's kind and words
unfoldable pub body_calls : ℕ → List ℕ → List Call
body_calls kind ws =
    cond (eqb kind 1) (pair_calls ws)
    (cond (eqb kind 2) (hand_over_call ∷ [])
    (cond (eqb kind 3) (restore_call ws ∷ [])
    []))

-- ---- what the plain machine prints

-- the machine after a body of this kind and these words; the unit's file has 474 words
unfoldable pub machine_after : Machine → ℕ → List ℕ → Machine
machine_after m kind ws = plain_run 474 m (body_calls kind ws)

-- what the definition of shading gives of a fragment, from the machine's registers and entries
abbrev pub machine_shades : Machine → List ℕ → Shaded
machine_shades m fragment = shade_from m.registers m.entries fragment no_answer

-- "Bodies run in order": of the words w, each body prints from the machine as the bodies up to it left it
unfoldable pub machine_prints : List ℕ → List Body → Machine → List ℕ
machine_prints w [] m = []
machine_prints w (b ∷ bs) m =
    let after = machine_after m b.kind (words_in w b) in
    body_lines (machine_shades after) b.kind (words_in w b) ++ machine_prints w bs after

-- ---- what is printed

-- by the capture's refusal: "on a fresh unit and a fresh copy"; "A bad capture prints only `refused N`."
unfoldable pub printed_if : ℕ → List ℕ → List ℕ
printed_if zero w = machine_prints w (contents w) zero_machine
printed_if (suc k) w = refused_line (suc k)

-- "What a run prints is the bytes that a library call works out from the input"
unfoldable pub printed : List ℕ → List ℕ
printed input = printed_if (capture_refusal input) (words_of input)

-- ---- what the library call answers

-- 712 lines of 32 bytes: no capture has more fragments, and none prints more
abbrev pub largest_output : ℕ
largest_output = 22784

-- the number of an output without room for what is printed: no refusal of document 01, nor of a later request
abbrev pub short_output : ℕ
short_output = 101

-- a number, how many bytes are printed, and the output afterwards
pub record Captured : Type 0 where
  pub number : ℕ
  pub size : ℕ
  pub output : List ℕ

abbrev pub captured : ℕ → ℕ → List ℕ → Captured
captured k n o = record { number = k; size = n; output = o }

-- in the output o, at its start: the capture's number, 0, 8 or 3, and what it prints, `refused N` included
unfoldable pub prints_into : List ℕ → List ℕ → Captured
prints_into input o = captured (capture_refusal input) (length (printed input)) (printed input ++ drop (length (printed input)) o)

-- of an input, the number of bytes printed before, and an output: one without room is left, and so is that number. The paper's refusals come first.
unfoldable pub captures : List ℕ → ℕ → List ℕ → Captured
captures input n o =
    cond (leb (length (printed input)) (length o)) (prints_into input o)
    (captured (capture_refusal input else short_output) n o)

-- "Where an answer is an enum, a definition gives, for each of its cases, this paper's number and values": its number
abbrev pub number_of_answer : Result (Unit {0}) Refusal → Option ℕ → ℕ
number_of_answer (Ok done) (Some n) = 0
number_of_answer (Ok done) None = short_output
number_of_answer (Err k) printed = number_of k

abbrev pub number_by : Answer → ℕ
number_by a = number_of_answer a.outcome a.printed

-- how many bytes are printed, where it was n before
abbrev pub size_of : ℕ → Answer → ℕ
size_of n a = unwrap_or a.printed n

-- and both, where it left the output o
abbrev pub captured_by : Answer → ℕ → List ℕ → Captured
captured_by a n o = captured (number_by a) (size_of n a) o
