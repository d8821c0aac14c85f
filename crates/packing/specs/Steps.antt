-- What the code computes step by step; nobody has to trust it: the contract of `pack` ties it to Block's `packs`. Definitions only.
use Rattle.std.specs.Prelude.{ℕ, List, ◌++◌, Some}
use Rattle.std.proofs.lemmas.List.Edits.{sets}
use Rattle.lighting.specs.declared.Light.{Light}
use Rattle.lighting.specs.declared.Lighting.{Lighting}
use Rattle.block.specs.Block.{lookup_words, vector_words}

-- the block with the words ws from i on
unfoldable pub put_words : List ℕ → ℕ → List ℕ → List ℕ
put_words b i ws = sets b i ws

-- the seven lookups of a head
unfoldable pub lookups_words : Lighting → List ℕ
lookups_words l =
    lookup_words l.distribution0
    ++ lookup_words l.distribution1
    ++ lookup_words l.fresnel
    ++ lookup_words l.reflect_red
    ++ lookup_words l.reflect_green
    ++ lookup_words l.reflect_blue
    ++ lookup_words (Some l.spotlight)

-- the first four vectors of a light
unfoldable pub colours_words : Light → List ℕ
colours_words l = vector_words l.specular0 ++ vector_words l.specular1 ++ vector_words l.diffuse ++ vector_words l.ambient

-- and the other three
unfoldable pub places_words : Light → List ℕ
places_words l = vector_words l.position ++ vector_words l.direction ++ vector_words l.spot
