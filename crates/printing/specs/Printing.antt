-- What a run prints, as bytes: "Each fragment prints one line, primary then secondary k in decimal, red green blue alpha each, single spaces; or `off`. A bad capture prints
-- only `refused N`." First a number in decimal, then the three lines. Definitions only.
use Rattle.std.specs.Prelude.{ℕ, ◌+◌, ◌/◌, ◌%◌, List, [], ◌∷◌, ◌++◌, cond, ltb}

-- ---- a number

-- the byte of a digit: `0` is 48
abbrev pub digit_byte : ℕ → ℕ
digit_byte n = 48 + n

-- "in decimal": a number below 1000, without leading zeros
unfoldable pub decimal : ℕ → List ℕ
decimal k =
    cond (ltb k 10)
    (digit_byte k ∷ [])
    (cond (ltb k 100)
    (digit_byte (k / 10) ∷ digit_byte (k % 10) ∷ [])
    (digit_byte (k / 100) ∷ digit_byte (k / 10 % 10) ∷ digit_byte (k % 10) ∷ []))

-- ---- the three lines

-- what follows a number, where `rest` are the numbers still to come: "single spaces", and a newline after the last
unfoldable pub gap : List ℕ → ℕ
gap [] = 10
gap (k ∷ rest) = 32

-- the line of these numbers, of a fragment eight: "primary then secondary k in decimal, red green blue alpha each"
unfoldable pub line : List ℕ → List ℕ
line [] = []
line (k ∷ rest) = decimal k ++ (gap rest ∷ line rest)

-- "or `off`", and a newline
abbrev pub off_line : List ℕ
off_line = 111 ∷ 102 ∷ 102 ∷ 10 ∷ []

-- "prints only `refused N`", and a newline
abbrev pub refused_line : ℕ → List ℕ
refused_line n = 114 ∷ 101 ∷ 102 ∷ 117 ∷ 115 ∷ 101 ∷ 100 ∷ 32 ∷ (decimal n ++ (10 ∷ []))
