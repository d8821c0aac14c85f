-- The kinds of bodies by their numbers. Definitions only.
use Rattle.std.specs.Prelude.{ℕ, ◌%◌, Bool, cond, eqb, Option, Some, None}
use Rattle.capture_check.specs.declared.contents.BodyKind.{BodyKind}
use Rattle.capture_check.specs.declared.contents.BodyKind.TheVariants.{Writes, Fragments, Restore}

-- the kind of a number, if it is one
unfoldable pub kind_of : ℕ → Option BodyKind
kind_of n =
    cond (eqb n 1) (Some Writes)
    (cond (eqb n 2) (Some Fragments)
    (cond (eqb n 3) (Some Restore) None))

-- "a length not a multiple of 2 (kind 1), of 23 (kind 2) or not 12,288 (kind 3)"
unfoldable pub takes : BodyKind → ℕ → Bool
takes Writes size = eqb (size % 2) 0
takes Fragments size = eqb (size % 23) 0
takes Restore size = eqb size 12288
