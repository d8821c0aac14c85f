-- What the code computes step by step; nobody has to trust it: ReaderLaws and BytesLaws tie it to the law, `Boundary`. Definitions only.
use Rattle.std.specs.Prelude.{ℕ, ◌+◌, ◌*◌, cond, List, eqb, length, get_or}
use Rattle.sources.specs.Sources.{words_of}
use Rattle.block.specs.declared.BlockForm.{BlockForm}
use Rattle.block.specs.declared.BlockForm.TheVariants.{Off, NotWellFormed, NanFree, WithNan}

-- the number of a block of 328 words by its form
unfoldable pub form_number : BlockForm → ℕ
form_number Off = 100
form_number NotWellFormed = 7
form_number NanFree = 0
form_number WithNan = 0

-- the words of a slice of words and a slice of bytes: the words, unless there are bytes
unfoldable pub given : List ℕ → List ℕ → List ℕ
given words bytes = cond (eqb (length bytes) 0) words (words_of bytes)

-- word i of some bytes
unfoldable pub word_at : List ℕ → ℕ → ℕ
word_at bytes i =
    get_or bytes (4 * i) 0
    + 0x100 * get_or bytes (4 * i + 1) 0
    + 0x1_0000 * get_or bytes (4 * i + 2) 0
    + 0x100_0000 * get_or bytes (4 * i + 3) 0
