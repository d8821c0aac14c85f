-- What the code computes step by step, part by part and in the code's order; nobody has to trust it: the contract of `form` ties it to Block's
-- `well_formed`, by way of block's `block_form`. Definitions only.
use Rattle.std.specs.Prelude.{ℕ, ◌+◌, Bool, not, ◌&&◌, ◌||◌, ltb, eqb}
use Rattle.lighting.specs.Forms.{every}
use Rattle.lighting.specs.Lighting.{slot_of}
use Rattle.block_check.specs.declared.lanes.Lanes.{Lanes}
use Rattle.block_check.specs.declared.lights.Found.{Found}
use Rattle.block.specs.Block.{from, lookup_at, slot_at, zeros, bit_at, bump_formed, shadow_formed, scale_formed, is_number}

-- ---- the head

-- the words before the lookups but the count
unfoldable pub options_formed : (ℕ → ℕ) → Bool
options_formed w =
    ltb (w 0) 16
    && bump_formed (w 2)
    && shadow_formed (w 3)
    && ltb (w 4) 2
    && ltb (w 5) 2
    && ltb (w 6) 2
    && ltb (w 7) 4
    && not (eqb (w 7) 1)

-- the four words of a lookup: presence, input, absolute, scale
unfoldable pub lookup_formed : (ℕ → ℕ) → Bool
lookup_formed v =
    ltb (v 0) 2
    && ltb (v 1) 8
    && ltb (v 2) 2
    && scale_formed (v 3)
    && (eqb (v 0) 1 || zeros v 1 3)

-- the first n lookups
unfoldable pub lookups_formed : (ℕ → ℕ) → ℕ → Bool
lookups_formed w n = every n (λ k. lookup_formed (from w (lookup_at k)))

-- the 40 words of a head but the count and the global ambient
unfoldable pub head_formed : (ℕ → ℕ) → Bool
head_formed w = options_formed w && lookups_formed w 7 && eqb (w 32) 1 && eqb (w 39) 0

-- ---- the lit slots

-- the fourth word of each vector of a light
unfoldable pub vectors_padded : (ℕ → ℕ) → Bool
vectors_padded v =
    eqb (v 3) 0
    && eqb (v 7) 0
    && eqb (v 11) 0
    && eqb (v 15) 0
    && eqb (v 19) 0
    && eqb (v 23) 0
    && eqb (v 27) 0

-- and two after the distance, two at the end
unfoldable pub light_padded : (ℕ → ℕ) → Bool
light_padded v = vectors_padded v && eqb (v 30) 0 && eqb (v 31) 0 && eqb (v 34) 0 && eqb (v 35) 0

-- the 36 words of a lit slot but its floats
unfoldable pub light_formed : (ℕ → ℕ) → Bool
light_formed v =
    light_padded v
    && (bit_at (v 32) 16 || (eqb (v 28) 0 && eqb (v 29) 0))
    && ltb (v 32) 128
    && ltb (v 33) 8

-- the first n slots
unfoldable pub lights_formed : (ℕ → ℕ) → ℕ → Bool
lights_formed w n = every n (λ s. light_formed (from w (slot_at (slot_of s))))

-- ---- words put together

-- no bit is set in any of four words
unfoldable pub clear : Lanes → Bool
clear lanes = eqb lanes.a 0 && eqb lanes.b 0 && eqb lanes.c 0 && eqb lanes.d 0

-- what was found in lit slots is what formed ones have: no bit where all are zero, flags below 128 and numbers below 8
unfoldable pub found_formed : Found → Bool
found_formed found = eqb found.zeros 0 && ltb found.flags 128 && ltb found.numbers 8

-- ---- the floats

-- none of n words from i on is a NaN's pattern
abbrev pub numbers : (ℕ → ℕ) → ℕ → ℕ → Bool
numbers w i n = every n (λ k. is_number (w (i + k)))
