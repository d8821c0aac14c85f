-- Closed runs of the definitions, by computation: a word after a gap, one after a remark, a byte that is no digit, a text with nothing left. Assumes nothing.
use mathlib.Core.Path.{◌≡◌, refl}
use mathlib.Core.List.{[], ◌∷◌}
use mathlib.Core.Bool.{false}
use Rattle.std.specs.Prelude.{Some, None}
use Rattle.word_text.specs.Text.{digit_of, digits_of, is_gap, in_remark, next_of}

-- ` 0000001F`
after_gap : next_of false (32 ∷ 48 ∷ 48 ∷ 48 ∷ 48 ∷ 48 ∷ 48 ∷ 49 ∷ 70 ∷ []) 5 ≡ Some (0x1F, 14)
unfolding next_of digits_of digit_of is_gap in_remark
after_gap = refl

-- `#8`, a line's end, `FFFFFFFF`
after_remark : next_of false (35 ∷ 56 ∷ 10 ∷ 70 ∷ 70 ∷ 70 ∷ 70 ∷ 70 ∷ 70 ∷ 70 ∷ 70 ∷ []) 0 ≡ Some (0xFFFFFFFF, 11)
unfolding next_of digits_of digit_of is_gap in_remark
after_remark = refl

-- `0000000G`, and seven digits
no_digit : next_of false (48 ∷ 48 ∷ 48 ∷ 48 ∷ 48 ∷ 48 ∷ 48 ∷ 71 ∷ []) 0 ≡ None
unfolding next_of digits_of digit_of is_gap in_remark
no_digit = refl

too_short : next_of false (48 ∷ 48 ∷ 48 ∷ 48 ∷ 48 ∷ 48 ∷ 48 ∷ []) 0 ≡ None
unfolding next_of digits_of digit_of is_gap in_remark
too_short = refl

-- a line's end, `#0`
nothing : next_of false (10 ∷ 35 ∷ 48 ∷ []) 0 ≡ None
unfolding next_of digits_of digit_of is_gap in_remark
nothing = refl
