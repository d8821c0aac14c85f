-- What the code computes step by step; nobody has to trust it: `WritingLaws` ties it to the law, since a text that is put from a buffer's start becomes its front. A buffer that is
-- written from a place on, be its elements bytes or words. Definitions only.
use Rattle.std.specs.Prelude.{ℕ, ◌+◌, ◌<◌, ◌≤◌, ◌≡◌, List, [], ◌∷◌, length, set, get_or}
use Rattle.printing.specs.declared.Lines.{Lines}

-- a buffer, and the place of the next element
pub record Out : Type 0 where
  pub list : List ℕ
  pub at : ℕ

abbrev pub out : List ℕ → ℕ → Out
out l i = record { list = l; at = i }

-- a text written from there on
unfoldable pub puts : Out → List ℕ → Out
puts o [] = o
puts o (x ∷ xs) = puts (out (set o.list o.at x) (o.at + 1)) xs

-- every number is a k, "a whole number from 0 to 255"
abbrev pub Bytes : List ℕ → Type 0
Bytes l = (i : ℕ) → get_or l i 0 < 256

-- the lines so far, and the place after them
abbrev pub so_far : Lines → Out
so_far l = out l.bytes.now l.len

-- a text is put after them, in the same buffer
pub record Adds (old new : Lines) (text : List ℕ) : Type 0 where
  pub same_reference : new.bytes.ghost_name ≡ old.bytes.ghost_name
  pub after : so_far new ≡ puts (so_far old) text

-- there is room for n bytes more
abbrev pub HasRoom : Lines → ℕ → Type 0
HasRoom l n = l.len + n ≤ length l.bytes.now
