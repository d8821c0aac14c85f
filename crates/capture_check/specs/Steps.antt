-- What the code computes step by step; nobody has to trust it: `StepsLaws` ties it to the law. The triples of the contents as the code has them. Definitions only.
use Rattle.std.specs.Prelude.{ℕ, ◌+◌, ◌≤◌, List, [], ◌∷◌, All, length, get_or}
use Rattle.capture_check.specs.Contents.{Body, body}
use Rattle.capture_check.specs.declared.contents.Entry.{Entry}

-- the body that an entry of the contents names, and a triple of words
abbrev pub named : Entry → Body
named e = body e.kind e.offset e.size

abbrev pub named_by : List ℕ → Body
named_by t = body (get_or t 0 0) (get_or t 1 0) (get_or t 2 0)

-- the bodies that these triples name
unfoldable pub bodies : List (List ℕ) → List Body
bodies [] = []
bodies (t ∷ ts) = named_by t ∷ bodies ts

-- each of them ends within the words w
abbrev pub Within : List ℕ → List (List ℕ) → Type 0
Within w ts = All (λ (t : List ℕ). get_or t 1 0 + get_or t 2 0 ≤ length w) ts
