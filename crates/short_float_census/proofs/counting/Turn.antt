-- A turn of the loop over patterns: the totals are the fold's over the patterns below, and a decoded pattern has the class of its word. Assumes nothing.
use Prim.Native.Nat.{ℕ, suc, ◌+◌, ◌^◌, ◌≤◌, ◌<◌}
use native.Mathlib.Omega.{arith}
use mathlib.Core.Bool.{Bool, true}
use mathlib.Core.Path.{◌≡◌, sym, ap, ◌∙◌}
use lib.Pow.{pow_mono}
use Rattle.binary32.specs.Binary32.{word_of}
use Rattle.fields.specs.Fields.{short_word, short_float}
use Rattle.fields.specs.Steps.{ShortWidths}
use Rattle.short_float_census.specs.declared.Class.{Class}
use Rattle.short_float_census.specs.Census.{class_of, more, totals_below, counted}
use Rattle.short_float_census.specs.Steps.{Room}
use Rattle.short_float_census.specs.CensusLaws.{whole, counted_widths}
use Rattle.short_float_census.specs.FloatClassLaws.{class_back}

-- one pattern more, classed by its float
pub next : (m e k : ℕ) → more 1 (class_of (word_of (short_float m e k))) (totals_below m e k) ≡ totals_below m e (k + 1)
unfolding totals_below short_float
next m e k =
    let one : suc k ≡ k + 1 = omega arith in
    ap (λ (c : Class). more 1 c (totals_below m e k)) (class_back (short_word m e k)) ∙ ap (totals_below m e) one

-- no total is above their sum
pub room : (m e k : ℕ) → k < 0xffff_ffff → Room (totals_below m e k)
room m e k h =
    let sum = whole m e k in
    record { zeros = omega arith; infinities = omega arith; nans = omega arith; numbers = omega arith }

pub widths : (m e : ℕ) (b : Bool) → b ≡ counted m e → b ≡ true → ShortWidths m e
widths m e b d t = counted_widths m e (rw (← d) t)

pub few : (m e p : ℕ) → ShortWidths m e → p ≡ 2 ^ (m + e + 1) → p ≤ 1048576
few m e p w is = rw is (pow_mono {j = 20} (omega arith))
