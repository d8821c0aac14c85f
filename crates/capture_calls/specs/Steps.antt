-- What the code computes step by step; nobody has to trust it: `MachineLaws` ties it to the law, `Capture`, since the copy prints what the plain machine prints. What bodies leave
-- and print on a unit and a copy, one body and all of them in order. Definitions only.
use Rattle.std.specs.Prelude.{ℕ, List, [], ◌∷◌, ◌++◌}
use Rattle.unit.specs.declared.Cache.{Cache}
use Rattle.lists.specs.States.{State}
use Rattle.lists.specs.Calls.{Call, run}
use Rattle.lists.specs.Ours.{ours}
use Rattle.capture_check.specs.Contents.{Body, words_in}
use Rattle.capture_lines.specs.Lines.{body_lines}
use Rattle.capture_lines.specs.Steps.{block_shades}
use Rattle.capture_calls.specs.Capture.{body_calls}

-- the unit and the copy after a body of this kind and these words
unfoldable pub after_body : State Cache → ℕ → List ℕ → State Cache
after_body s kind ws = run ours s (body_calls kind ws)

-- what it prints, from the copy as its own calls left it
unfoldable pub after_lines : State Cache → ℕ → List ℕ → List ℕ
after_lines s kind ws = body_lines (block_shades s.copy.block s.copy.tables) kind ws

-- the calls that the bodies in the words w make
unfoldable pub calls_of : List ℕ → List Body → List Call
calls_of w [] = []
calls_of w (b ∷ bs) = body_calls b.kind (words_in w b) ++ calls_of w bs

-- what they print, each from the copy as its own calls left it
unfoldable pub copy_prints : List ℕ → List Body → State Cache → List ℕ
copy_prints w [] s = []
copy_prints w (b ∷ bs) s =
    let after = after_body s b.kind (words_in w b) in
    after_lines after b.kind (words_in w b) ++ copy_prints w bs after
