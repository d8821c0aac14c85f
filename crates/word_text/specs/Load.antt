-- For tests alone: the words of a text, put into a list one after the other. Definitions only.
use Rattle.std.specs.Prelude.{ℕ, zero, suc, ◌+◌, ◌≡◌, List, false, length, drop, set, Option, Some, None}
use Rattle.word_text.specs.Text.{next_of}

-- how many words were put, and the list afterwards
pub record Loaded : Type 0 where
  pub count : ℕ
  pub words : List ℕ

abbrev pub loaded_as : ℕ → List ℕ → Loaded
loaded_as n out = record { count = n; words = out }

-- what follows a word, or what there is where none stands
abbrev pub onward : Option (ℕ × ℕ) → (ℕ → ℕ → Loaded) → Loaded → Loaded
onward (Some (w, next)) f d = f w next
onward None f d = d

-- at most k words of the text t from the place `at` on, put into the list from its place n on
unfoldable pub loaded : ℕ → List ℕ → ℕ → ℕ → List ℕ → Loaded
loaded zero t at n out = loaded_as n out
loaded (suc k) t at n out =
    onward (next_of false (drop at t) at) (λ w next. loaded k t next (n + 1) (set out n w)) (loaded_as n out)

-- what was put is the words of some text: which one a file has is not known to a proof
pub record OfSomeText (n : ℕ) (before after : List ℕ) : Type 0 where
  pub text : List ℕ
  pub is : loaded_as n after ≡ loaded (length before) text 0 0 before
