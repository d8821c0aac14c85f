-- A light whose parts are known. A vector's place in a light is its place in the block less the light's, and the lowest bit
-- of a word is the word over 1 by 2. Assumes nothing.
use Prim.Native.Nat.{ℕ, ◌+◌, ◌%◌}
use native.Mathlib.Nat.{add-zero, add_assoc, div-one}
use mathlib.Core.Path.{◌≡◌, refl}
use mathlib.Core.List.{List}
use lib.Dec.{eqb}
use lib.Ieee.{Float}
use Rattle.std.specs.Prelude.{Option}
use Rattle.lighting.specs.declared.LightNumber.{LightNumber}
use Rattle.lighting.specs.declared.Distance.{Distance}
use Rattle.lighting.specs.declared.Light.{Light}
use Rattle.block.specs.Block.{from, bit_at, block_vector, block_distance, block_light}

pub vector_from : (w : ℕ → ℕ) (i j : ℕ) → block_vector w (i + j) ≡ block_vector (from w i) j
unfolding block_vector
vector_from w i j = rw (add_assoc i j 1, add_assoc i j 2) refl

pub vector_first : (w : ℕ → ℕ) (i : ℕ) → block_vector w i ≡ block_vector (from w i) 0
unfolding block_vector
vector_first w i = rw (add-zero i) refl

abbrev pub numbered : ℕ → LightNumber
numbered n = record { 0 = n }

pub light_made : (v : ℕ → ℕ) (a b c d e f g : List Float) (h : Option Distance) (n : LightNumber) (k : ℕ) → a ≡ block_vector v 0
    → b ≡ block_vector v 4
    → c ≡ block_vector v 8
    → d ≡ block_vector v 12
    → e ≡ block_vector v 16
    → f ≡ block_vector v 20
    → g ≡ block_vector v 24
    → h ≡ block_distance v
    → n ≡ numbered (v 33)
    → k ≡ v 32
    → ◌≡◌ {A = Light} (record {
      specular0 = a;
      specular1 = b;
      diffuse = c;
      ambient = d;
      position = e;
      direction = f;
      spot = g;
      directional = eqb (k % 2) 1;
      two_sided = bit_at k 2;
      geometric0 = bit_at k 4;
      geometric1 = bit_at k 8;
      distance = h;
      spotlight = bit_at k 32;
      shadowed = bit_at k 64;
      number = n;
    }) (block_light v)
unfolding block_light
light_made v a b c d e f g h n k p0 p1 p2 p3 p4 p5 p6 p7 p8 p9 = rw (p0, p1, p2, p3, p4, p5, p6, p7, p8, p9, div-one (v 32)) refl
