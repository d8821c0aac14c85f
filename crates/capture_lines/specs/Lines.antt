-- The lines that fragments print: "Each fragment prints one line, primary then secondary k in decimal, red green blue alpha each, single spaces; or `off`." First what
-- shading answers of a fragment, then its line, then the lines of a body. `printing/specs/Printing` has each line's bytes. Definitions only.
use Rattle.std.specs.Prelude.{ℕ, zero, suc, ◌/◌, List, [], ◌++◌, cond, eqb, length, take, drop, replicate}
use Rattle.printing.specs.Printing.{line, off_line, refused_line}
use Rattle.shading.specs.Shade.{Shaded}

-- an answer of 8 words that shading has not written yet
abbrev pub no_answer : List ℕ
no_answer = replicate 8 0

-- "Each fragment prints one line": the eight k, or `off`; a refusal, which no capture meets, prints as such
unfoldable pub shown_line : Shaded → List ℕ
shown_line s =
    cond (eqb s.number 0) (line s.answer)
    (cond (eqb s.number 100) off_line
    (refused_line s.number))

-- "fragments of 23 words": n of them in the words ws, each as `shade` answers it
unfoldable pub fragment_lines : (List ℕ → Shaded) → ℕ → List ℕ → List ℕ
fragment_lines shade zero ws = []
fragment_lines shade (suc n) ws = shown_line (shade (take 23 ws)) ++ fragment_lines shade n (drop 23 ws)

-- what a body of this kind and these words prints: "Kind 2: fragments of 23 words"; no other kind prints
unfoldable pub body_lines : (List ℕ → Shaded) → ℕ → List ℕ → List ℕ
body_lines shade kind ws = cond (eqb kind 2) (fragment_lines shade (length ws / 23) ws) []
