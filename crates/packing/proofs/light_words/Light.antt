-- A light, put part by part. The parts stand one after another as the definition has them. Assumes nothing.
use Prim.Native.Nat.{ℕ, ◌+◌}
use mathlib.Core.Path.{◌≡◌, refl}
use mathlib.Core.List.{List, [], ◌∷◌}
use Rattle.lighting.specs.declared.Light.{Light}
use Rattle.block.specs.Block.{vector_words, flags_word, light_words, distance_words}
use Rattle.packing.specs.Steps.{put_words, colours_words, places_words}
use Rattle.packing.specs.PutLaws.{after}

pub light_put : (l : Light) (at : ℕ) (b b1 b2 b3 b4 : List ℕ) (f : ℕ)
    → f ≡ flags_word l
    → b1 ≡ put_words b at (colours_words l)
    → b2 ≡ put_words b1 (at + 16) (places_words l)
    → b3 ≡ put_words b2 (at + 28) (distance_words l.distance)
    → b4 ≡ put_words b3 (at + 32) (f ∷ l.number.0 ∷ 0 ∷ 0 ∷ [])
    → b4 ≡ put_words b at (light_words l)
unfolding light_words distance_words colours_words places_words vector_words
light_put l at b b1 b2 b3 b4 f ef e1 e2 e3 e4 =
    after _ _ _ at 32 _ _ refl (after _ _ _ at 28 _ _ refl (after _ _ _ at 16 _ _ refl e1 e2) e3) (rw ef at e4)
