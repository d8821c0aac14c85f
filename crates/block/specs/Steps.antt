-- What the code computes step by step; nobody has to trust it: AcceptedLaws ties `acceptable` to Block's `accepted`, and block_reading's AnswerLaws tie
-- the forms to what Block says of the words. Definitions only.
use Rattle.std.specs.Prelude.{ℕ, List, Bool, true, not, ◌&&◌, ◌||◌, cond, ltb, eqb, length, None, Option, Some}
use Rattle.binary32.specs.Binary32.{word_of}
use Rattle.lighting.specs.declared.Lookup.{Lookup}
use Rattle.lighting.specs.declared.Lighting.{Lighting}
use Rattle.lighting.specs.Forms.{every}
use Rattle.lighting.specs.Lighting.{in_range}
use Rattle.block.specs.declared.BlockForm.{BlockForm}
use Rattle.block.specs.declared.BlockForm.TheVariants.{Off, NotWellFormed, NanFree, WithNan}
use Rattle.block.specs.Block.{words, scale_formed, all_zero, is_number, well_formed}

-- ---- which lightings `pack` accepts, asked of the lighting itself

unfoldable pub lookup_acceptable : Lookup → Bool
lookup_acceptable l = ltb l.input 8 && scale_formed (word_of l.scale)

unfoldable pub optional_lookup_acceptable : Option Lookup → Bool
optional_lookup_acceptable None = true
optional_lookup_acceptable (Some l) = lookup_acceptable l

unfoldable pub acceptable : Lighting → Bool
acceptable l =
    ltb l.config 16
    && optional_lookup_acceptable l.distribution0
    && optional_lookup_acceptable l.distribution1
    && optional_lookup_acceptable l.fresnel
    && optional_lookup_acceptable l.reflect_red
    && optional_lookup_acceptable l.reflect_green
    && optional_lookup_acceptable l.reflect_blue
    && lookup_acceptable l.spotlight
    && (not l.needs_half || l.needs_view)
    && in_range l

-- ---- what the check answers of a block

-- no word is a NaN's pattern
unfoldable pub nan_free : (ℕ → ℕ) → Bool
nan_free w = every 328 (λ i. is_number (w i))

unfoldable pub form_of : (ℕ → ℕ) → BlockForm
form_of w = cond (all_zero w) Off (cond (well_formed w) (cond (nan_free w) NanFree WithNan) NotWellFormed)

-- a block of another length is not well formed
unfoldable pub block_form : List ℕ → BlockForm
block_form b = cond (eqb (length b) 328) (form_of (words b)) NotWellFormed
