-- One step of each definition at a place of the text: what it gives there is what it gives after the byte that stands there. The loops go by these steps. Assumes nothing.
use Prim.Native.Nat.{ℕ, zero, suc, ◌+◌, ◌*◌, ◌-◌, ◌^◌, ◌<◌, ◌≤◌}
use native.Mathlib.Nat.{pow-suc, pow-le-pow_right}
use native.Mathlib.Omega.{arith}
use mathlib.Core.Path.{◌≡◌, refl}
use mathlib.Core.List.{List, []}
use mathlib.Core.Bool.{Bool, true, false}
use lib.ListN.{length, drop, get_or, set, length-set, drop_of_length-le}
use Rattle.std.specs.Prelude.{Option, Some, None}
use Rattle.sources.specs.PieceLaws.{drop_one}
use Rattle.word_text.specs.Text.{digit_of, with_digit, digits_of, is_gap, in_remark, next_of}
use Rattle.word_text.specs.Load.{loaded, loaded_as}

-- no digit left to read
pub digits_done : (k n i : ℕ) (t : List ℕ) → k ≡ 0 → digits_of k n t i ≡ Some (n, i)
unfolding digits_of
digits_done k n i t e = rw e refl

-- digits past the end
pub digits_past : (k n i : ℕ) (t : List ℕ) → 0 < k → length t ≤ i → digits_of k n (drop i t) i ≡ None
unfolding digits_of
digits_past zero n i t p h = absurd (omega arith)
digits_past (suc k) n i t p h = rw (drop_of_length-le t h) refl

digits_at : (k n i : ℕ) (t : List ℕ) (o : Option ℕ) → i < length t → o ≡ digit_of (get_or t i 0) → digits_of (suc k) n (drop i t) i ≡ with_digit o (λ d. digits_of k (n * 16 + d) (drop (i + 1) t) (i + 1))
unfolding digits_of
digits_at k n i t o h e = rw (drop_one t i h, e) refl

-- a byte that is no digit
pub digits_none : (k n i : ℕ) (t : List ℕ) → 0 < k → i < length t → None ≡ digit_of (get_or t i 0) → digits_of k n (drop i t) i ≡ None
digits_none zero n i t p h e = absurd (omega arith)
digits_none (suc k) n i t p h e = digits_at k n i t None h e

-- a digit
pub digits_more : (k j n i : ℕ) (t : List ℕ) (d : ℕ) → k ≡ suc j → i < length t → Some d ≡ digit_of (get_or t i 0) → digits_of k n (drop i t) i ≡ digits_of j (n * 16 + d) (drop (i + 1) t) (i + 1)
digits_more k j n i t d p h e = rw p (digits_at j n i t (Some d) h e)

-- k digits so far leave room for one more
pub fits : (n k : ℕ) → k < 8 → n < 16 ^ k → n < 0x10000000
fits n k p h =
    let most : 16 ^ k ≤ 0x10000000 = pow-le-pow_right {n = 16} (omega arith) {i = k} {j = 7} (omega arith) in omega arith

pub room : (n d k j : ℕ) → j ≡ suc k → n < 16 ^ k → d < 16 → n * 16 + d < 16 ^ j
room n d k j e h s = rw (e, pow-suc 16 k) (omega arith)

-- the text's end
pub next_end : (remark : Bool) (i : ℕ) (t : List ℕ) → length t ≤ i → next_of remark (drop i t) i ≡ None
unfolding next_of
next_end remark i t h = rw (drop_of_length-le t h) refl

-- a byte between words, and a word's first
pub next_gap : (remark : Bool) (i : ℕ) (t : List ℕ) → i < length t → is_gap remark (get_or t i 0) ≡ true → next_of remark (drop i t) i ≡ next_of (in_remark remark (get_or t i 0)) (drop (i + 1) t) (i + 1)
unfolding next_of
next_gap remark i t h e = rw (drop_one t i h, e) refl

pub next_word : (remark : Bool) (i : ℕ) (t : List ℕ) → i < length t → is_gap remark (get_or t i 0) ≡ false → next_of remark (drop i t) i ≡ digits_of 8 0 (drop i t) i
unfolding next_of
next_word remark i t h e = rw (drop_one t i h, e) refl

-- a word goes to its place, and one less is left to put
pub load_word : (t : List ℕ) (at n : ℕ) (out : List ℕ) (w next : ℕ) → n < length out → next_of false (drop at t) at ≡ Some (w, next) → loaded (length out - n) t at n out ≡ loaded (length (set out n w) - (n + 1)) t next (n + 1) (set out n w)
unfolding loaded
load_word t at n out w next h e =
    let more : length out - n ≡ suc (length out - (n + 1)) = omega arith in rw (more, e, length-set out n w) refl

-- an empty text
pub load_nothing : (k : ℕ) (out : List ℕ) → loaded_as 0 out ≡ loaded k [] 0 0 out
unfolding loaded next_of
load_nothing zero out = refl
load_nothing (suc k) out = refl

-- no word
pub load_none : (t : List ℕ) (at n : ℕ) (out : List ℕ) → n < length out → next_of false (drop at t) at ≡ None → loaded (length out - n) t at n out ≡ loaded_as n out
unfolding loaded
load_none t at n out h e =
    let more : length out - n ≡ suc (length out - (n + 1)) = omega arith in rw (more, e) refl

-- a full list
pub load_full : (t : List ℕ) (at n : ℕ) (out : List ℕ) → length out ≤ n → loaded (length out - n) t at n out ≡ loaded_as n out
unfolding loaded
load_full t at n out h =
    let none : length out - n ≡ 0 = omega arith in rw none refl
