-- A head, put part by part. The parts stand one after another as the definition has them. Assumes nothing.
use Prim.Native.Nat.{ℕ, ◌+◌}
use mathlib.Core.Path.{◌≡◌, refl}
use mathlib.Core.List.{List, [], ◌∷◌}
use Rattle.lighting.specs.declared.Lighting.{Lighting}
use Rattle.block.specs.Block.{bit_of, flag_word, bump_word, shadow_word, lookup_words, vector_words, head_words}
use Rattle.packing.specs.Steps.{put_words, lookups_words}
use Rattle.packing.specs.PutLaws.{after}

pub head_put : (l : Lighting) (b b1 b2 b3 b4 : List ℕ) (m s h v : ℕ)
    → m ≡ bump_word l.bump
    → s ≡ shadow_word l.shadow
    → h ≡ flag_word l.needs_half 1
    → v ≡ flag_word l.needs_view 2
    → b1 ≡ put_words b 0 (l.config ∷ l.light_count ∷ m ∷ s ∷ [])
    → b2 ≡ put_words b1 4 (bit_of l.fresnel_primary ∷ bit_of l.fresnel_secondary ∷ bit_of l.clamp_highlights ∷ (h + v) ∷ [])
    → b3 ≡ put_words b2 8 (lookups_words l)
    → b4 ≡ put_words b3 36 (vector_words l.global_ambient)
    → b4 ≡ put_words b 0 (head_words l)
unfolding head_words lookups_words lookup_words vector_words
head_put l b b1 b2 b3 b4 m s h v em es eh ev e1 e2 e3 e4 =
    after _ _ _ 0 36 _ _ refl (after _ _ _ 0 8 _ _ refl (after _ _ _ 0 4 _ _ refl (rw (em, es) at e1) (rw (eh, ev) at e2)) e3) e4
