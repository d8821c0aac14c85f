-- Document 01's cases P, as one table: what the definitions give, in words, and what the paper says they must. That every case holds: CasesLaws. Definitions only.
use Rattle.std.specs.Prelude.{ℕ, Bool, true, ◌&&◌, List, [], ◌∷◌, pos, negsuc, get_or, set, replicate, Float}
use Rattle.std.specs.Float.{nan, binary32}
use Rattle.std.specs.Float.Ieee.{of_int}
use Rattle.sources.specs.Sources.{same_words}
use Rattle.binary32.specs.Binary32.{float_of, word_of, quantized_of, signed_place_of}
use Rattle.root.specs.Root.{root_of}
use Rattle.fields.specs.Fields.{short_float, fixed_of}
use Rattle.tables.specs.Tables.{Wrote, write}

-- a case: the words that a definition gives, and those that are due
pub record Case : Type 0 where
  pub gives : List ℕ
  pub due : List ℕ

abbrev pub case : List ℕ → List ℕ → Case
case g d = record { gives = g; due = d }

-- one word
infixl 70 ◌is◌
abbrev pub ◌is◌ : ℕ → ℕ → Case
g is d = case (g ∷ []) (d ∷ [])

-- the word of the half n, and of the 20-bit float n
unfoldable pub half : ℕ → ℕ
half n = word_of (short_float 10 5 n)

unfoldable pub float20 : ℕ → ℕ
float20 n = word_of (short_float 12 7 n)

-- the word v to register 1C8 of a fresh unit whose register 1C5 holds i
unfoldable pub uploaded : ℕ → ℕ → Wrote
uploaded i v = write (set (replicate 474 0) 0x1C5 i) (replicate 12288 0) 0 0x1C8 v

-- the number that the call returns, 1C5 and the generation afterwards, and every word of the tables
unfoldable pub told : Wrote → List ℕ
told w = w.number ∷ get_or w.file 0x1C5 0 ∷ w.generation ∷ w.tables

-- the entry and the word of the delta
unfoldable pub signed_place : Float → List ℕ
signed_place x = (signed_place_of x).entry ∷ word_of (signed_place_of x).delta ∷ []

-- P, in the paper's order
unfoldable pub cases : List Case
cases =
    -- "half 3C00 is 1; half 8000 is −0; half 0001 is 38002000; half 7C00 is 7F800000"
    half 0x3C00 is 0x3F80_0000
    ∷ half 0x8000 is 0x8000_0000
    ∷ half 0x0001 is 0x3800_2000
    ∷ half 0x7C00 is 0x7F80_0000
    -- "20-bit 3F000 is 1; spot 1FFF is −1/2047; root of 2 is 3FB504F3"
    ∷ float20 0x3F000 is 0x3F80_0000
    ∷ word_of (fixed_of 0x1FFF) is 0xBA00_1002
    ∷ word_of (root_of (of_int binary32 (pos 2))) is 0x3FB5_04F3
    -- "0.5 quantises to 127; NaN to 0"
    ∷ quantized_of (float_of 0x3F00_0000) is 127
    ∷ quantized_of nan is 0
    -- "fresh upload 800000 stores 0 and −0, generation 1"
    ∷ case (told (uploaded 0 0x80_0000)) (0 ∷ 1 ∷ 1 ∷ 0 ∷ 0x8000_0000 ∷ replicate 12286 0)
    -- "1C5 17FF becomes 1700; 1C5 1800 becomes 1801 with nothing stored"
    ∷ case (told (uploaded 0x17FF 0)) (0 ∷ 0x1700 ∷ 0 ∷ replicate 12288 0)
    ∷ case (told (uploaded 0x1800 0xFF_FFFF)) (0 ∷ 0x1801 ∷ 0 ∷ replicate 12288 0)
    -- "signed input −1 reads entry 128, delta 0"
    ∷ case (signed_place (of_int binary32 (negsuc 0))) (128 ∷ 0 ∷ [])
    ∷ []

-- every case gives what is due
unfoldable pub hold : List Case → Bool
hold [] = true
hold (c ∷ cs) = same_words c.gives c.due && hold cs
