-- The kept words by their places. 139 words are the file's kept words exactly where they agree with it at each place, since the parts have
-- their lengths in a file of 474 words. Assumes nothing.
use native.Mathlib.Omega.{arith}
use borrow.Rule.Slice.PartMut.{put_mid}
use Rattle.std.proofs.Common.{◌≡◌, ℕ, suc, ◌+◌, ◌-◌, ◌≤◌, ◌<◌, refl, sym, ◌∙◌, subst, List, [], ◌∷◌, ◌++◌, Bool, true, false, append_assoc, length, get_or, set, take, drop, length-drop, length-append, ltb, eqb, eqb-true, ltb-true, ltb-false, eq-eqb, ne_eqb}
use Rattle.std.proofs.lemmas.Bool.{false≢true, eqb-false}
use lib.ListN.{get_or-append}
use lib.Seq.{length-take-le, get_or-append-add, get_or-take, get_or-drop, ext_get_or}
use Rattle.std.proofs.lemmas.List.{get_or_at, set_at, take_at, drop_at}
use Rattle.decoding.specs.Read.{registers_read}
use Rattle.decoding.specs.Steps.{differences}
use Rattle.sources.specs.Sources.{same_words}
use Rattle.decoding.proofs.KeptLaws.{kept_whole}
use Rattle.decoding.specs.ComparingLaws.{same_equal, same_self, differences_none, none_differences}

-- the words k are those of the file f, place by place
pub record Agrees (f k : List ℕ) : Type 0 where
  pub enable : get_or f 0x08F 0 ≡ get_or k 0 0
  pub lights : (x : ℕ) → x < 133 → get_or f (0x140 + x) 0 ≡ get_or k (1 + x) 0
  pub disable : get_or f 0x1C6 0 ≡ get_or k 134 0
  pub tables : (x : ℕ) → x < 3 → get_or f (0x1D0 + x) 0 ≡ get_or k (135 + x) 0
  pub slots : get_or f 0x1D9 0 ≡ get_or k 138 0

-- the list of all parts, by the place in it
module _ (e d s : ℕ) (l t : List ℕ) (ll : length l ≡ 133) (tl : length t ≡ 3) where
  abbrev whole : List ℕ
  whole = e ∷ (l ++ (d ∷ (t ++ (s ∷ []))))

  past_lights : (x : ℕ) → get_or whole (134 + x) 0 ≡ get_or (d ∷ (t ++ (s ∷ []))) x 0
  past_lights x =
      let p : 134 + x ≡ suc (length l + x) = omega arith in
      rw p (get_or-append-add l (d ∷ (t ++ (s ∷ []))) x 0)

  whole_lights : (x : ℕ) → x < 133 → get_or whole (1 + x) 0 ≡ get_or l x 0
  whole_lights x h =
      let p : 1 + x ≡ suc x = omega arith in
      rw p (get_or-append l (d ∷ (t ++ (s ∷ []))) 0 x (omega arith))

  whole_tables : (x : ℕ) → x < 3 → get_or whole (135 + x) 0 ≡ get_or t x 0
  whole_tables x h =
      let p : 135 + x ≡ 134 + suc x = omega arith in
      rw p (past_lights (suc x) ∙ get_or-append t (s ∷ []) 0 x (omega arith))

  whole_slots : get_or whole 138 0 ≡ s
  whole_slots = past_lights 4 ∙ get_or_at t s [] 0 3 tl

module _ (f : List ℕ) (h : 474 ≤ length f) where
  lights_length : length (take 133 (drop 0x140 f)) ≡ 133
  lights_length = length-take-le 133 (drop 0x140 f) (omega (arith, length-drop 0x140 f))

  tables_length_lem : length (take 3 (drop 0x1D0 f)) ≡ 3
  tables_length_lem = length-take-le 3 (drop 0x1D0 f) (omega (arith, length-drop 0x1D0 f))

  kept_agrees : Agrees f (registers_read f)
  unfolding registers_read
  kept_agrees =
      let l = take 133 (drop 0x140 f) in
      let t = take 3 (drop 0x1D0 f) in
      record {
        enable = refl;
        lights =
            λ x p.
            sym (whole_lights (get_or f 0x08F 0) (get_or f 0x1C6 0) (get_or f 0x1D9 0) l t lights_length tables_length_lem x p ∙ get_or-take 133 (drop 0x140 f) x 0 p ∙ get_or-drop 0x140 f x 0);
        disable = sym (past_lights (get_or f 0x08F 0) (get_or f 0x1C6 0) (get_or f 0x1D9 0) l t lights_length tables_length_lem 0);
        tables =
            λ x p.
            sym (whole_tables (get_or f 0x08F 0) (get_or f 0x1C6 0) (get_or f 0x1D9 0) l t lights_length tables_length_lem x p ∙ get_or-take 3 (drop 0x1D0 f) x 0 p ∙ get_or-drop 0x1D0 f x 0);
        slots = sym (whole_slots (get_or f 0x08F 0) (get_or f 0x1C6 0) (get_or f 0x1D9 0) l t lights_length tables_length_lem);
      }

  -- two lists that agree with the file have the same word at each place
  word_same : (a b : List ℕ) → Agrees f a → Agrees f b → (i : ℕ) → i < 139 → get_or a i 0 ≡ get_or b i 0
  word_same a b p q i low = go (eqb i 0) (ltb i 134) (eqb i 134) (ltb i 138) refl refl refl refl
    where
      go : (x y z w : Bool) → eqb i 0 ≡ x → ltb i 134 ≡ y → eqb i 134 ≡ z → ltb i 138 ≡ w → get_or a i 0 ≡ get_or b i 0
      go true y z w ex ey ez ew = rw (eqb-true i 0 ex) (sym p.enable ∙ q.enable)
      go false true z w ex ey ez ew =
          let e : 1 + (i - 1) ≡ i = omega (arith, eqb-false i 0 ex) in
          let n : i - 1 < 133 = omega (arith, eqb-false i 0 ex, ltb-true i 134 ey) in
          subst (λ (j : ℕ). get_or a j 0 ≡ get_or b j 0) e (sym (p.lights (i - 1) n) ∙ q.lights (i - 1) n)
      go false false true w ex ey ez ew = rw (eqb-true i 134 ez) (sym p.disable ∙ q.disable)
      go false false false true ex ey ez ew =
          let e : 135 + (i - 135) ≡ i = omega (arith, ltb-false i 134 ey, eqb-false i 134 ez) in
          let n : i - 135 < 3 = omega (arith, ltb-true i 138 ew) in
          subst (λ (j : ℕ). get_or a j 0 ≡ get_or b j 0) e (sym (p.tables (i - 135) n) ∙ q.tables (i - 135) n)
      go false false false false ex ey ez ew =
          let e : i ≡ 138 = omega (arith, ltb-false i 138 ew) in
          rw e (sym p.slots ∙ q.slots)

  pub agrees_kept : (k : List ℕ) → length k ≡ 139 → Agrees f k → k ≡ registers_read f
  agrees_kept k n a =
      ext_get_or 0 k (registers_read f) (n ∙ sym (kept_whole f h)) (λ i p. word_same k (registers_read f) a kept_agrees i (omega arith))

  -- the differences of the five parts
  abbrev found : List ℕ → ℕ
  found k =
      differences f 0x08F k 0 1 + differences f 0x140 k 1 133 + differences f 0x1C6 k 134 1 + differences f 0x1D0 k 135 3 + differences f 0x1D9 k 138 1

  pub found_same : (k : List ℕ) → length k ≡ 139 → eqb (found k) 0 ≡ same_words k (registers_read f)
  found_same k n = go (same_words k (registers_read f)) refl
    where
      only : (from at : ℕ) → get_or f from 0 ≡ get_or k at 0 → (x : ℕ) → x < 1 → get_or f (from + x) 0 ≡ get_or k (at + x) 0
      only from at e x p =
          let i : from + x ≡ from = omega arith in
          let j : at + x ≡ at = omega arith in
          rw (i, j) e

      none : found k ≡ 0 → k ≡ registers_read f
      none e =
          agrees_kept k n
          (record {
            enable = differences_none f 0x08F k 0 1 (omega arith) 0 (omega arith);
            lights = differences_none f 0x140 k 1 133 (omega arith);
            disable = differences_none f 0x1C6 k 134 1 (omega arith) 0 (omega arith);
            tables = differences_none f 0x1D0 k 135 3 (omega arith);
            slots = differences_none f 0x1D9 k 138 1 (omega arith) 0 (omega arith);
          })

      same : k ≡ registers_read f → found k ≡ 0
      same e =
          let a : Agrees f k = rw e kept_agrees in
          omega (arith, none_differences f 0x08F k 0 1 (only 0x08F 0 a.enable), none_differences f 0x140 k 1 133 a.lights, none_differences f 0x1C6 k 134 1 (only 0x1C6 134 a.disable), none_differences f 0x1D0 k 135 3 a.tables, none_differences f 0x1D9 k 138 1 (only 0x1D9 138 a.slots))

      go : (b : Bool) → same_words k (registers_read f) ≡ b → eqb (found k) 0 ≡ b
      go true e = eq-eqb (found k) 0 (same (same_equal k (registers_read f) e))
      go false e = ne_eqb (found k) 0 (λ z. false≢true (sym e ∙ (rw (none z) (same_self (registers_read f)))))

-- the words 134 to 138, and a write to each of their parts
put_last : (a t r : List ℕ) (d s : ℕ) → length a ≡ 134 → length t ≡ 3 → length r ≡ 5 → set (put_mid 135 3 (set (a ++ r) 134 d) t) 138 s ≡ a ++ (d ∷ (t ++ (s ∷ [])))
put_last a t (d' ∷ t' ∷ u' ∷ v' ∷ s' ∷ []) d s p q n =
    let r' = t' ∷ u' ∷ v' ∷ s' ∷ [] in
    let b = a ++ (d ∷ []) in
    let lb : length b ≡ 135 = simp length-append (omega arith) in
    let lt : length (b ++ t) ≡ 138 = simp length-append (omega arith) in
    rw (set_at a d' r' d 134 p, ← append_assoc a (d ∷ []) r', take_at b r' 135 lb, drop_at b r' 135 lb, ← append_assoc b t (s' ∷ []), set_at (b ++ t) s' [] s 138 lt)
    (simp append_assoc)
put_last a t [] d s p q n = absurd (omega arith)
put_last a t (_ ∷ []) d s p q n = absurd (omega arith)
put_last a t (_ ∷ _ ∷ []) d s p q n = absurd (omega arith)
put_last a t (_ ∷ _ ∷ _ ∷ []) d s p q n = absurd (omega arith)
put_last a t (_ ∷ _ ∷ _ ∷ _ ∷ []) d s p q n = absurd (omega arith)
put_last a t (_ ∷ _ ∷ _ ∷ _ ∷ _ ∷ _ ∷ _) d s p q n = absurd (omega arith)

-- a write to each of the five parts of 139 words
pub put_parts : (k l t : List ℕ) (e d s : ℕ) → length k ≡ 139 → length l ≡ 133 → length t ≡ 3 → set (put_mid 135 3 (set (put_mid 1 133 (set k 0 e) l) 134 d) t) 138 s ≡ e ∷ (l ++ (d ∷ (t ++ (s ∷ []))))
put_parts [] l t e d s n p q = absurd (omega arith)
put_parts (x ∷ k) l t e d s n p q = put_last (e ∷ l) t (drop 133 k) d s (omega arith) q (simp length-drop (omega arith))

-- the parts of a file
pub put_kept : (f k l t : List ℕ) → 474 ≤ length f → length k ≡ 139 → l ≡ take 133 (drop 0x140 f) → t ≡ take 3 (drop 0x1D0 f) → set (put_mid 135 3 (set (put_mid 1 133 (set k 0 (get_or f 0x08F 0)) l) 134 (get_or f 0x1C6 0)) t) 138 (get_or f 0x1D9 0) ≡ registers_read f
unfolding registers_read
put_kept f k l t h n p q =
    rw (p, q) (put_parts k (take 133 (drop 0x140 f)) (take 3 (drop 0x1D0 f)) _ _ _ n (lights_length f h) (tables_length_lem f h))
