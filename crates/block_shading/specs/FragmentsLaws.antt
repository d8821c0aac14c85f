-- A fragment's words can be read from its place on, and of what follows its 23 words none counts. So the fragments of a list are shaded one after another, each from
-- its own words, and each answer stands in its own 8 words. Assumes nothing.
use Prim.Native.Nat.{ℕ, zero, suc, ◌+◌, ◌*◌, ◌/◌, ◌<◌, ◌≤◌}
use native.Mathlib.Omega.{arith}
use Rattle.std.specs.Prelude.{◌≡◌, take, drop, map, slice_index_or}
use Rattle.std.specs.Simd.{first_chunks}
use Rattle.std.proofs.Math.Path.{refl, sym}
use Rattle.std.proofs.Common.{ap, ◌∙◌, length-append, get_or-take, get_or-drop, length-take-le}
use mathlib.Core.List.{List, [], ◌∷◌, ◌++◌, append-nil, append_assoc}
use Rattle.std.proofs.Math.ListN.{length}
use Rattle.std.proofs.lemmas.List.{take_more}
use Rattle.std.proofs.lemmas.Grind.{flat_map-append}
use Rattle.std.specs.List.{take-map, drop-map}
use Rattle.std.proofs.Math.Seq.{drop-drop, take_at, drop-append-add}
use Rattle.lighting.specs.declared.Lighting.{Lighting}
use Rattle.shading.specs.Shade.{shade}
use Rattle.block_shading.specs.BlockShading.{float_at, four_at, quaternion_of, view_of, texels_of, eight_of, eight_of_each}
use Rattle.block_shading.specs.Steps.{eights}

-- ---- words from a place on

pub float_at_lem : (q : List ℕ) (a i : ℕ) → float_at (drop a q) i ≡ float_at q (a + i)
unfolding float_at
float_at_lem q a i = rw (get_or-drop a q i 0) refl

pub four_at_lem : (q : List ℕ) (a i : ℕ) → four_at (drop a q) i ≡ four_at q (a + i)
unfolding four_at
four_at_lem q a i =
    let e1 : a + (i + 1) ≡ a + i + 1 = omega arith in
    let e2 : a + (i + 2) ≡ a + i + 2 = omega arith in
    let e3 : a + (i + 3) ≡ a + i + 3 = omega arith in
    rw (float_at_lem q a i, float_at_lem q a (i + 1), float_at_lem q a (i + 2), float_at_lem q a (i + 3), e1, e2, e3) refl

pub four_here : (q : List ℕ) (a : ℕ) → four_at (drop a q) 0 ≡ four_at q a
four_here q a = let e : a + 0 ≡ a = omega arith in four_at_lem q a 0 ∙ ap (four_at q) e

-- ---- a fragment is its first 23 words

float_of_23 : (q : List ℕ) (i : ℕ) → i < 23 → float_at (take 23 q) i ≡ float_at q i
unfolding float_at
float_of_23 q i h = rw (get_or-take 23 q i 0 h) refl

four_of_23 : (q : List ℕ) (i : ℕ) → i + 3 < 23 → four_at (take 23 q) i ≡ four_at q i
unfolding four_at
four_of_23 q i h = rw (float_of_23 q i (omega arith), float_of_23 q (i + 1) (omega arith), float_of_23 q (i + 2) (omega arith), float_of_23 q (i + 3) (omega arith)) refl

pub eight_of_23 : (l : Lighting) (t q : List ℕ) → eight_of l t (take 23 q) ≡ eight_of l t q
unfolding eight_of quaternion_of view_of texels_of
eight_of_23 l t q =
    rw
    (four_of_23 q 0 (omega arith), float_of_23 q 4 (omega arith), float_of_23 q 5 (omega arith), float_of_23 q 6 (omega arith), four_of_23 q 7 (omega arith), four_of_23 q 11 (omega arith), four_of_23 q 15 (omega arith), four_of_23 q 19 (omega arith))
    refl

-- ---- fragments one after another

module _ (l : Lighting) (t : List ℕ) where
  pub none : (q : List ℕ) → eight_of_each l t 0 q ≡ []
  unfolding eight_of_each
  none q = refl

  -- one more, from its place on
  pub each_more : (i : ℕ) (q : List ℕ) → eight_of_each l t (i + 1) q ≡ eight_of_each l t i q ++ eight_of l t (drop (23 * i) q)
  unfolding eight_of_each
  each_more zero q = append-nil (eight_of l t (take 23 q)) ∙ eight_of_23 l t q
  each_more (suc i) q =
      let e : suc i + 1 ≡ suc (i + 1) = omega arith in
      let d : 23 * suc i ≡ 23 + 23 * i = omega arith in
      rw (e, each_more i (drop 23 q), drop-drop (23 * i) 23 q, sym d) (sym (append_assoc (eight_of l t (take 23 q)) (eight_of_each l t i (drop 23 q)) (eight_of l t (drop (23 * suc i) q))))

  -- a single one
  pub each_of_one : (q : List ℕ) → length q ≡ 23 → eight_of_each l t (length q / 23) q ≡ eight_of l t q
  unfolding eight_of_each
  each_of_one q h = rw h (append-nil (eight_of l t (take 23 q)) ∙ eight_of_23 l t q)

  pub eight_long : (q : List ℕ) → length (eight_of l t q) ≡ 8
  unfolding eight_of shade
  eight_long q = refl

  -- the answer of fragment i, put after those before it: the words one after another, and a list of fragments
  pub each_put : (i : ℕ) (a k q : List ℕ) → 8 * i + 8 ≤ length a → k ≡ eight_of l t (drop (23 * i) q) → take (8 * i) a ≡ eight_of_each l t i q
      → take (8 * (i + 1)) (take (8 * i) a ++ (k ++ drop (8 * i + 8) a)) ≡ eight_of_each l t (i + 1) q
  each_put i a k q h e f =
      let n : length (take (8 * i) a ++ k) ≡ 8 * (i + 1) = length-append (take (8 * i) a) k ∙ omega (arith, length-take-le (8 * i) a (omega arith), ap length e ∙ eight_long (drop (23 * i) q)) in
      ap (take (8 * (i + 1))) (sym (append_assoc (take (8 * i) a) k (drop (8 * i + 8) a)))
      ∙ take_at (take (8 * i) a ++ k) (drop (8 * i + 8) a) (8 * (i + 1)) n
      ∙ rw (e, f, each_more i q) refl

  pub eights_put : {A : Type 0} (value : A → ℕ) (fragments : List (List A)) (i : ℕ) (a k : List ℕ)
      → i < length fragments
      → 8 * i + 8 ≤ length a
      → k ≡ eight_of l t (map value (slice_index_or fragments i []))
      → take (8 * i) a ≡ eights l t value (take i fragments)
      → take (8 * (i + 1)) (take (8 * i) a ++ (k ++ drop (8 * i + 8) a)) ≡ eights l t value (take (i + 1) fragments)
  eights_put value fragments i a k n h e f =
      let q = map value (slice_index_or fragments i []) in
      let m : length (take (8 * i) a ++ k) ≡ 8 * (i + 1) = length-append (take (8 * i) a) k ∙ omega (arith, length-take-le (8 * i) a (omega arith), ap length e ∙ eight_long q) in
      ap (take (8 * (i + 1))) (sym (append_assoc (take (8 * i) a) k (drop (8 * i + 8) a)))
      ∙ take_at (take (8 * i) a ++ k) (drop (8 * i + 8) a) (8 * (i + 1)) m
      ∙ rw (e, f, take_more fragments i [] n, flat_map-append (λ g. eight_of l t (map value g)) (take i fragments) (slice_index_or fragments i [] ∷ [])) (ap (λ (r : List ℕ). eights l t value (take i fragments) ++ r) (sym (append-nil (eight_of l t q))))

  -- of a single one
  pub eights_of_one : {A : Type 0} (value : A → ℕ) (fragment : List A) → eights l t value (fragment ∷ []) ≡ eight_of l t (map value fragment)
  eights_of_one value fragment = append-nil (eight_of l t (map value fragment))

  -- of the chunks of 23 words that a list begins with
  pub eights_of_chunks : {A : Type 0} (value : A → ℕ) (n : ℕ) (q : List A) → eights l t value (first_chunks 23 n q) ≡ eight_of_each l t n (map value q)
  unfolding eight_of_each
  eights_of_chunks value zero q = refl
  eights_of_chunks value (suc n) q = rw (take-map value 23 q, drop-map value 23 q, eights_of_chunks value n (drop 23 q)) refl

  -- the answer of fragment k, in its 8 words
  pub each_at : (k n : ℕ) (q : List ℕ) → k < n → take 8 (drop (8 * k) (eight_of_each l t n q)) ≡ eight_of l t (take 23 (drop (23 * k) q))
  unfolding eight_of_each
  each_at k zero q h = absurd (omega arith)
  each_at zero (suc n) q h = take_at (eight_of l t (take 23 q)) (eight_of_each l t n (drop 23 q)) 8 (eight_long (take 23 q))
  each_at (suc k) (suc n) q h =
      let a = eight_of l t (take 23 q) in
      let e : 8 * suc k ≡ length a + 8 * k = omega (arith, eight_long (take 23 q)) in
      let d : 23 * suc k ≡ 23 + 23 * k = omega arith in
      rw (e, drop-append-add a (eight_of_each l t n (drop 23 q)) (8 * k), d, sym (drop-drop (23 * k) 23 q)) (each_at k n (drop 23 q) (omega arith))
