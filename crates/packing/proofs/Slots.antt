-- The slots, put one after another behind the head. The parts stand as the definition has them. Assumes nothing.
use Prim.Native.Nat.{ℕ, ◌+◌, ◌*◌}
use native.Mathlib.Numerals.{add-one}
use mathlib.Core.Path.{◌≡◌, refl, sym, ◌∙◌}
use mathlib.Core.List.{List}
use lib.ListN.{length}
use Rattle.lighting.specs.declared.Lighting.{Lighting}
use Rattle.lighting.specs.Lighting.{slot_of}
use Rattle.block.specs.Block.{head_words, slot_words, slots_words, packed, slot_at}
use Rattle.block.specs.ListLaws.{length_head, length_slots, length-packed}
use Rattle.packing.specs.Steps.{put_words}
use Rattle.packing.specs.PutLaws.{after, whole}

pub none_put : (l : Lighting) (b : List ℕ) → b ≡ put_words b 40 (slots_words l 0)
unfolding put_words slots_words
none_put l b = refl

-- one more slot
pub slot_put : (l : Lighting) (s : ℕ) (b b1 b2 : List ℕ)
    → b1 ≡ put_words b 40 (slots_words l s)
    → b2 ≡ put_words b1 (slot_at (slot_of s)) (slot_words l (slot_of s))
    → b2 ≡ put_words b 40 (slots_words l (s + 1))
unfolding slots_words
slot_put l s b b1 b2 e1 e2 = rw (add-one s) (after _ _ _ 40 (36 * s) _ _ (length_slots l s) e1 e2)

pub all_put : (l : Lighting) (b b1 b2 : List ℕ) → length b ≡ 328 → b1 ≡ put_words b 0 (head_words l) → b2 ≡ put_words b1 40 (slots_words l 8) → b2 ≡ packed l
unfolding packed
all_put l b b1 b2 n e1 e2 = after _ _ _ 0 40 _ _ (length_head l) e1 e2 ∙ whole b (packed l) (n ∙ sym (length-packed l))
