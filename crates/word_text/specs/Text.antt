-- For tests alone: words written as text, as the data of the replay programs are, eight hexadecimal digits each, spaces and line ends between them, and remarks from `#` to the line's end.
-- Definitions only.
use Rattle.std.specs.Prelude.{ℕ, zero, suc, ◌+◌, ◌*◌, ◌-◌, List, [], ◌∷◌, Bool, true, false, cond, eqb, leb, ◌&&◌, Option, Some, None}

-- the digit that a byte writes: from `0` to `9` and from `A` to `F`; any other writes none
unfoldable pub digit_of : ℕ → Option ℕ
digit_of b =
    cond (leb 48 b && leb b 57) (Some (b - 48)) (cond (leb 65 b && leb b 70) (Some (b - 65 + 10)) None)

-- a digit's value to the function, or where there is none no word
abbrev pub with_digit : Option ℕ → (ℕ → Option (ℕ × ℕ)) → Option (ℕ × ℕ)
with_digit (Some d) f = f d
with_digit None f = None

-- k digits of the text t, which starts at the place `at`, after digits that gave n: the word, and the place after it
unfoldable pub digits_of : ℕ → ℕ → List ℕ → ℕ → Option (ℕ × ℕ)
digits_of zero n t at = Some (n, at)
digits_of (suc k) n [] at = None
digits_of (suc k) n (b ∷ t) at = with_digit (digit_of b) (λ d. digits_of k (n * 16 + d) t (at + 1))

-- whether a byte, in a remark or not, stands between words: `#`, a space, a line's end
unfoldable pub is_gap : Bool → ℕ → Bool
is_gap true b = true
is_gap false b = cond (eqb b 35) true (cond (eqb b 32) true (eqb b 10))

-- whether the byte after it is in a remark
unfoldable pub in_remark : Bool → ℕ → Bool
in_remark remark b = cond (eqb b 10) false (cond remark true (eqb b 35))

-- the first word of the text t, which starts at the place `at`, in a remark or not; none at its end, or where something else stands
unfoldable pub next_of : Bool → List ℕ → ℕ → Option (ℕ × ℕ)
next_of remark [] at = None
next_of remark (b ∷ t) at =
    cond (is_gap remark b) (next_of (in_remark remark b) t (at + 1)) (digits_of 8 0 (b ∷ t) at)
