-- The words of what well-formed words read as are those words. Each kind of word is got back by itself: a float's unless it is a NaN
-- other than 7FC00000, a flag's if it is 0 or 1, a unit's and a kind's by division. Assumes nothing.
use Rattle.std.specs.Cmp.{both_ways}
use Rattle.std.specs.Prelude.{ℕ, zero, suc, ◌+◌, ◌-◌, ◌*◌, ◌/◌, ◌%◌, ◌<◌, ◌≤◌, ◌^◌, ◌⊎◌, ◌≡◌, refl, Bool, true, false, not, cond, ◌&&◌, ◌||◌, List, [], ◌∷◌, T, eqb, ltb, leb, None, Option, Some}
use Rattle.std.proofs.Common.{arith, inl, inr, ⊎_elim, sym, ap, subst, ◌∙◌, eq-eqb, ne_eqb, le-ltb, le-leb, ltb-true, leb-true, eqb-true}
use Rattle.std.specs.Float.{binary32}
use Rattle.std.specs.Float.Ieee.{nan_bits, of_bits, to_bits}
use Rattle.std.specs.Float.Ieee.Bits.{to_bits-of_bits, nan_bits_is, nan_bits_above}
use Rattle.std.proofs.lemmas.Bool.{eqb-false, and_parts}
use Rattle.binary32.specs.Binary32.{float_of, word_of}
use Rattle.lighting.specs.declared.Bump.TheVariants.{Flat, Normal, Tangent}
use Rattle.lighting.specs.Lighting.{is_scaled, bump_unit, shadow_unit}
use Rattle.block.specs.Block.{flag_word, bump_word, shadow_word, lookup_row, distance_row, zeros, bit_at, bump_formed, shadow_formed, scale_formed, is_number, float_formed, block_bump, block_shadow, block_lookup, block_optional_lookup, block_distance}
use Rattle.block.specs.TestLaws.{or_first, chain_first, chain_part, or_cases, every_one}
use Rattle.block.specs.FlagLaws.{flag_bit, small_bit}
use Rattle.lighting.specs.declared.Lookup.{Lookup}

-- a float's word

pub number_is : (n : ℕ) → n % 0x8000_0000 ≤ 0x7F80_0000 → is_number n ≡ true
unfolding is_number
number_is n h = le-leb (n % 0x8000_0000) 0x7F80_0000 h

pub number_formed : (n : ℕ) → is_number n ≡ true → float_formed n ≡ true
unfolding float_formed
number_formed n h = or_first (is_number n) (eqb n 0x7FC0_0000) h

-- a word too small for a NaN
pub small_number : (n : ℕ) → n ≤ 0x7F80_0000 → is_number n ≡ true
small_number n h = number_is n (omega arith)

pub small_formed : (n : ℕ) → n ≤ 0x7F80_0000 → float_formed n ≡ true
small_formed n h = number_formed n (small_number n h)

nan_back : word_of (float_of 0x7FC0_0000) ≡ 0x7FC0_0000
unfolding to_bits of_bits
nan_back = refl

-- a pattern that is no NaN's
pub no_nan : (n : ℕ) → n % 0x8000_0000 ≤ 0x7F80_0000 → T (not (nan_bits binary32 n))
no_nan n h = subst (λ (b : Bool). T (not b)) (sym (nan_bits_above binary32 n ∙ le-ltb _ _ h)) tt

number_back : (n : ℕ) → n < 2 ^ 32 → n % 0x8000_0000 ≤ 0x7F80_0000 → word_of (float_of n) ≡ n
number_back n k h = to_bits-of_bits binary32 n k (subst (λ (b : Bool). T (not b)) (nan_bits_is binary32 n) (no_nan n h))

pub word_back : (n : ℕ) → n < 2 ^ 32 → float_formed n ≡ true → word_of (float_of n) ≡ n
unfolding float_formed is_number
word_back n k h =
    ⊎_elim (λ e. number_back n k (leb-true (n % 0x8000_0000) 0x7F80_0000 e))
    (λ e. let q : n ≡ 0x7FC0_0000 = eqb-true n 0x7FC0_0000 e in ap (λ (m : ℕ). word_of (float_of m)) q ∙ nan_back ∙ sym q)
    (or_cases (leb (n % 0x8000_0000) 0x7F80_0000) (eqb n 0x7FC0_0000) h)

pub scale_small : (n : ℕ) → scale_formed n ≡ true → n ≤ 0x4100_0000
unfolding scale_formed
scale_small n h =
    let a = eqb n 0 in
    let b = eqb n 0x3F80_0000 in
    let c = eqb n 0x4000_0000 in
    let d = eqb n 0x4080_0000 in
    let e = eqb n 0x4100_0000 in
    let f = eqb n 0x3E80_0000 in
    let g = eqb n 0x3F00_0000 in
    ⊎_elim (λ h6. ⊎_elim (λ h5. ⊎_elim (λ h4. ⊎_elim (λ h3. ⊎_elim (λ h2. ⊎_elim
    (λ p. omega (arith, eqb-true n 0 p))
    (λ p. omega (arith, eqb-true n 0x3F80_0000 p)) (or_cases a b h2))
    (λ p. omega (arith, eqb-true n 0x4000_0000 p)) (or_cases (a || b) c h3))
    (λ p. omega (arith, eqb-true n 0x4080_0000 p)) (or_cases (a || b || c) d h4))
    (λ p. omega (arith, eqb-true n 0x4100_0000 p)) (or_cases (a || b || c || d) e h5))
    (λ p. omega (arith, eqb-true n 0x3E80_0000 p)) (or_cases (a || b || c || d || e) f h6))
    (λ p. omega (arith, eqb-true n 0x3F00_0000 p)) (or_cases (a || b || c || d || e || f) g h)

-- the scales but 0 are the powers of 2 whose exponent field is 125 to 130

power_formed : (n k : ℕ) → k < 6 → n ≡ 0x80_0000 * (125 + k) → scale_formed n ≡ true
unfolding scale_formed
power_formed n zero h e = rw e refl
power_formed n (suc zero) h e = rw e refl
power_formed n (suc (suc zero)) h e = rw e refl
power_formed n (suc (suc (suc zero))) h e = rw e refl
power_formed n (suc (suc (suc (suc zero)))) h e = rw e refl
power_formed n (suc (suc (suc (suc (suc zero))))) h e = rw e refl
power_formed n (suc (suc (suc (suc (suc (suc k)))))) h e = absurd (omega arith)

zero_formed : (n : ℕ) → n ≡ 0 → scale_formed n ≡ true
unfolding scale_formed
zero_formed n e = rw e refl

exponents : (n : ℕ) → scale_formed n ≡ true → (eqb n 0 || (eqb (n % 0x80_0000) 0 && leb 125 (n / 0x80_0000) && leb (n / 0x80_0000) 130)) ≡ true
unfolding scale_formed
exponents n h =
    let a = eqb n 0 in
    let b = eqb n 0x3F80_0000 in
    let c = eqb n 0x4000_0000 in
    let d = eqb n 0x4080_0000 in
    let e = eqb n 0x4100_0000 in
    let f = eqb n 0x3E80_0000 in
    let g = eqb n 0x3F00_0000 in
    ⊎_elim (λ h6. ⊎_elim (λ h5. ⊎_elim (λ h4. ⊎_elim (λ h3. ⊎_elim (λ h2. ⊎_elim
    (λ p. rw (eqb-true n 0 p) refl)
    (λ p. rw (eqb-true n 0x3F80_0000 p) refl) (or_cases a b h2))
    (λ p. rw (eqb-true n 0x4000_0000 p) refl) (or_cases (a || b) c h3))
    (λ p. rw (eqb-true n 0x4080_0000 p) refl) (or_cases (a || b || c) d h4))
    (λ p. rw (eqb-true n 0x4100_0000 p) refl) (or_cases (a || b || c || d) e h5))
    (λ p. rw (eqb-true n 0x3E80_0000 p) refl) (or_cases (a || b || c || d || e) f h6))
    (λ p. rw (eqb-true n 0x3F00_0000 p) refl) (or_cases (a || b || c || d || e || f) g h)

pub scale_is : (n : ℕ) → (eqb n 0 || (eqb (n % 0x80_0000) 0 && leb 125 (n / 0x80_0000) && leb (n / 0x80_0000) 130)) ≡ scale_formed n
scale_is n = both_ways _ _ from (exponents n)
  where
    power : (eqb (n % 0x80_0000) 0 && leb 125 (n / 0x80_0000) && leb (n / 0x80_0000) 130) ≡ true → scale_formed n ≡ true
    power h =
        let cs : List Bool = leb 125 (n / 0x80_0000) ∷ leb (n / 0x80_0000) 130 ∷ [] in
        let r : n % 0x80_0000 ≡ 0 = eqb-true (n % 0x80_0000) 0 (chain_first (eqb (n % 0x80_0000) 0) cs h) in
        let low : 125 ≤ n / 0x80_0000 = leb-true 125 (n / 0x80_0000) (chain_part (eqb (n % 0x80_0000) 0) cs h 0) in
        let high : n / 0x80_0000 ≤ 130 = leb-true (n / 0x80_0000) 130 (chain_part (eqb (n % 0x80_0000) 0) cs h 1) in
        power_formed n (n / 0x80_0000 - 125) (omega arith) (omega arith)

    from : (eqb n 0 || (eqb (n % 0x80_0000) 0 && leb 125 (n / 0x80_0000) && leb (n / 0x80_0000) 130)) ≡ true → scale_formed n ≡ true
    from h = ⊎_elim (λ e. zero_formed n (eqb-true n 0 e)) power (or_cases (eqb n 0) (eqb (n % 0x80_0000) 0 && leb 125 (n / 0x80_0000) && leb (n / 0x80_0000) 130) h)

pub scale_back : (n : ℕ) → scale_formed n ≡ true → word_of (float_of n) ≡ n
scale_back n h = let s : n ≤ 0x4100_0000 = scale_small n h in number_back n (omega arith) (omega arith)

-- a word of kind 1 with one of the four units, below a limit
of_unit : (n limit : ℕ) → (eqb (n % 16) 1 && ltb (n / 16 % 16) 4 && ltb n limit) ≡ true → (n % 16 ≡ 1) × (n / 16 % 16 < 4) × (n < limit)
of_unit n limit p =
    let rest = ltb (n / 16 % 16) 4 ∷ ltb n limit ∷ [] in (
      eqb-true (n % 16) 1 (chain_first (eqb (n % 16) 1) rest p),
      ltb-true (n / 16 % 16) 4 (chain_part (eqb (n % 16) 1) rest p 0),
      ltb-true n limit (chain_part (eqb (n % 16) 1) rest p 1),
    )

-- the bump word

bump_zero : bump_word (block_bump 0) ≡ 0
unfolding bump_word block_bump
bump_zero = refl

bump_cases : (n : ℕ) → bump_formed n ≡ true
    → (n ≡ 0) ⊎ (((n % 16 ≡ 1) × (n / 16 % 16 < 4) × (n < 512)) ⊎ ((n % 16 ≡ 2) × (n < 64)))
unfolding bump_formed
bump_cases n h =
    ⊎_elim (λ q. ⊎_elim (λ p. inl (eqb-true n 0 p)) (λ p. inr (inl (of_unit n 512 p))) (or_cases (eqb n 0) (eqb (n % 16) 1 && ltb (n / 16 % 16) 4 && ltb n 512) q))
    (λ p. inr (inr (eqb-true (n % 16) 2 (and_parts (eqb (n % 16) 2) (ltb n 64) p).0, ltb-true n 64 (and_parts (eqb (n % 16) 2) (ltb n 64) p).1)))
    (or_cases (eqb n 0 || (eqb (n % 16) 1 && ltb (n / 16 % 16) 4 && ltb n 512)) (eqb (n % 16) 2 && ltb n 64) h)

pub bump_small : (n : ℕ) → bump_formed n ≡ true → n < 512
bump_small n h = ⊎_elim (λ e. omega arith) (λ q. ⊎_elim (λ p. p.2) (λ p. omega (arith, p.1)) q) (bump_cases n h)

normal_word : (n : ℕ) → n % 16 ≡ 1 → bump_word (block_bump n) ≡ 1 + 16 * (n / 16 % 16) + flag_word (bit_at n 256) 256
unfolding bump_word block_bump
normal_word n e = rw (eq-eqb (n % 16) 1 e) refl

tangent_word : (n : ℕ) → n % 16 ≡ 2 → bump_word (block_bump n) ≡ 2 + 16 * (n / 16 % 16)
unfolding bump_word block_bump
tangent_word n e = let d : n % 16 ≡ 1 → ⊥ = λ q. omega arith in rw (ne_eqb (n % 16) 1 d, eq-eqb (n % 16) 2 e) refl

sum1 : (n f : ℕ) → f ≡ 256 * (n / 256 % 2) → n % 16 ≡ 1 → n < 512 → 1 + 16 * (n / 16 % 16) + f ≡ n
sum1 n f e r s = omega arith

pub bump_word_back : (n : ℕ) → bump_formed n ≡ true → bump_word (block_bump n) ≡ n
bump_word_back n h =
    ⊎_elim (λ e. ap (λ (k : ℕ). bump_word (block_bump k)) e ∙ bump_zero ∙ sym e)
    (λ q. ⊎_elim (λ p. normal_word n p.0 ∙ sum1 n (flag_word (bit_at n 256) 256) (flag_bit (n / 256 % 2) 256 (omega arith)) p.0 p.2) (λ p. tangent_word n p.0 ∙ omega (arith, p.0, p.1)) q)
    (bump_cases n h)

pub bump_unit_small : (n : ℕ) → bump_formed n ≡ true → bump_unit (block_bump n) ≤ 3
unfolding block_bump bump_unit
bump_unit_small n h = go (eqb (n % 16) 1) (eqb (n % 16) 2)
  where
    small : n / 16 % 16 ≤ 3
    small = ⊎_elim (λ e. omega arith) (λ q. ⊎_elim (λ p. omega (arith, p.1)) (λ p. omega (arith, p.1)) q) (bump_cases n h)

    go : (x y : Bool) → bump_unit (cond x (Normal (n / 16 % 16) (bit_at n 256)) (cond y (Tangent (n / 16 % 16)) Flat)) ≤ 3
    go true y = small
    go false true = small
    go false false = omega arith

-- the shadow word

shadow_zero : shadow_word (block_shadow 0) ≡ 0
unfolding shadow_word block_shadow
shadow_zero = refl

shadow_cases : (n : ℕ) → shadow_formed n ≡ true → (n ≡ 0) ⊎ ((n % 16 ≡ 1) × (n / 16 % 16 < 4) × (n < 4096))
unfolding shadow_formed
shadow_cases n h = ⊎_elim (λ p. inl (eqb-true n 0 p)) (λ p. inr (of_unit n 4096 p)) (or_cases (eqb n 0) (eqb (n % 16) 1 && ltb (n / 16 % 16) 4 && ltb n 4096) h)

pub shadow_small : (n : ℕ) → shadow_formed n ≡ true → n < 4096
shadow_small n h = ⊎_elim (λ e. omega arith) (λ p. p.2) (shadow_cases n h)

-- a number's four low bits, one after the other: q is what is left above each
chain4 : (n a b c d q1 q2 q3 q4 : ℕ) → n ≡ 2 * q1 + a → q1 ≡ 2 * q2 + b → q2 ≡ 2 * q3 + c → q3 ≡ 2 * q4 + d → q4 ≡ 0 → a + 2 * b + 4 * c + 8 * d ≡ n
chain4 n a b c d q1 q2 q3 q4 e1 e2 e3 e4 z = omega arith

sum_low : (n : ℕ) → n % 16 ≡ 1 → 1 + 16 * (n / 16 % 16) ≡ n % 256
sum_low n e = omega arith

sum_high : (n : ℕ) → n < 4096 → n / 256 % 2 + 2 * (n / 512 % 2) + 4 * (n / 1024 % 2) + 8 * (n / 2048 % 2) ≡ n / 256
sum_high n h =
    chain4 (n / 256) (n / 256 % 2) (n / 512 % 2) (n / 1024 % 2) (n / 2048 % 2) (n / 512) (n / 1024) (n / 2048) (n / 4096)
    (omega arith) (omega arith) (omega arith) (omega arith) (omega arith)

sum_up : (n x a b c d : ℕ) → x ≡ n % 256 → a + 2 * b + 4 * c + 8 * d ≡ n / 256 → x + 256 * a + 512 * b + 1024 * c + 2048 * d ≡ n
sum_up n x a b c d p q = omega arith

sum4 : (n a b c d : ℕ) → a ≡ 256 * (n / 256 % 2) → b ≡ 512 * (n / 512 % 2) → c ≡ 1024 * (n / 1024 % 2) → d ≡ 2048 * (n / 2048 % 2) → n % 16 ≡ 1 → n < 4096 → 1 + 16 * (n / 16 % 16) + a + b + c + d ≡ n
sum4 n a b c d p q r s e h = rw (p, q, r, s) (sum_up n (1 + 16 * (n / 16 % 16)) (n / 256 % 2) (n / 512 % 2) (n / 1024 % 2) (n / 2048 % 2) (sum_low n e) (sum_high n h))

shadow_word_of : (n : ℕ) → n % 16 ≡ 1 → shadow_word (block_shadow n) ≡ 1 + 16 * (n / 16 % 16) + flag_word (bit_at n 256) 256 + flag_word (bit_at n 512) 512 + flag_word (bit_at n 1024) 1024 + flag_word (bit_at n 2048) 2048
unfolding shadow_word block_shadow
shadow_word_of n e = rw (eq-eqb (n % 16) 1 e) refl

pub shadow_word_back : (n : ℕ) → shadow_formed n ≡ true → shadow_word (block_shadow n) ≡ n
shadow_word_back n h =
    ⊎_elim (λ e. ap (λ (k : ℕ). shadow_word (block_shadow k)) e ∙ shadow_zero ∙ sym e)
    (λ p. shadow_word_of n p.0 ∙ sum4 n _ _ _ _ (flag_bit (n / 256 % 2) 256 (omega arith)) (flag_bit (n / 512 % 2) 512 (omega arith)) (flag_bit (n / 1024 % 2) 1024 (omega arith)) (flag_bit (n / 2048 % 2) 2048 (omega arith)) p.0 p.2)
    (shadow_cases n h)

pub shadow_unit_small : (n : ℕ) → shadow_formed n ≡ true → shadow_unit (block_shadow n) ≤ 3
unfolding block_shadow shadow_unit
shadow_unit_small n h = go (eqb (n % 16) 1)
  where
    small : n / 16 % 16 ≤ 3
    small = ⊎_elim (λ e. omega arith) (λ p. omega (arith, p.1)) (shadow_cases n h)

    go : (x : Bool) → shadow_unit (cond x (Some (record { unit = n / 16 % 16; invert = bit_at n 256; primary = bit_at n 512; secondary = bit_at n 1024; alpha = bit_at n 2048 })) None) ≤ 3
    go true = small
    go false = omega arith

-- a lookup's words

pub record LookupFormed (v : ℕ → ℕ) : Type 0 where
  pub presence : ltb (v 0) 2 ≡ true
  pub absolute : ltb (v 2) 2 ≡ true
  pub scale : scale_formed (v 3) ≡ true
  pub missing : (eqb (v 0) 1 || zeros v 1 3) ≡ true

pub zero_at : (v : ℕ → ℕ) (i n k : ℕ) → zeros v i n ≡ true → k < n → 0 ≡ v (i + k)
unfolding zeros
zero_at v i n k h m = sym (eqb-true (v (i + k)) 0 (every_one n (λ j. eqb (v (i + j)) 0) k h m))

pub record LookupBack (v : ℕ → ℕ) (o : Option Lookup) : Type 0 where
  pub presence : (lookup_row o).0 ≡ v 0
  pub input : (lookup_row o).1 ≡ v 1
  pub absolute : (lookup_row o).2 ≡ v 2
  pub scale : (lookup_row o).3 ≡ v 3

pub lookup_words_back : (v : ℕ → ℕ) → LookupFormed v → LookupBack v (block_optional_lookup v)
unfolding block_optional_lookup block_lookup lookup_row
lookup_words_back v f = go (eqb (v 0) 1) refl f.missing
  where
    go : (b : Bool) → eqb (v 0) 1 ≡ b → (b || zeros v 1 3) ≡ true → LookupBack v (cond b (Some (record { input = v 1; absolute = eqb (v 2) 1; scale = float_of (v 3) })) None)
    go true e m = record {
      presence = sym (eqb-true (v 0) 1 e);
      input = refl;
      absolute = small_bit (v 2) f.absolute;
      scale = scale_back (v 3) f.scale;
    }
    go false e m =
        let s : v 0 < 2 = ltb-true (v 0) 2 f.presence in
        let n : v 0 ≡ 1 → ⊥ = eqb-false (v 0) 1 e in
        record {
          presence = omega arith;
          input = zero_at v 1 3 0 m (omega arith);
          absolute = zero_at v 1 3 1 m (omega arith);
          scale = zero_at v 1 3 2 m (omega arith);
        }

-- a distance's words
pub distance_words_back : (v : ℕ → ℕ) → v 28 < 2 ^ 32 → v 29 < 2 ^ 32 → float_formed (v 28) ≡ true → float_formed (v 29) ≡ true → (bit_at (v 32) 16 || zeros v 28 2) ≡ true
    → ((distance_row (block_distance v)).0 ≡ v 28) × ((distance_row (block_distance v)).1 ≡ v 29) × (is_scaled (block_distance v) ≡ bit_at (v 32) 16)
unfolding block_distance distance_row is_scaled
distance_words_back v p q f g h = go (bit_at (v 32) 16) h
  where
    go : (b : Bool) → (b || zeros v 28 2) ≡ true
        → ((distance_row (cond b (Some (record { bias = float_of (v 28); scale = float_of (v 29) })) None)).0 ≡ v 28) × ((distance_row (cond b (Some (record { bias = float_of (v 28); scale = float_of (v 29) })) None)).1 ≡ v 29) × (is_scaled (cond b (Some (record { bias = float_of (v 28); scale = float_of (v 29) })) None) ≡ b)
    go true m = (word_back (v 28) p f, word_back (v 29) q g, refl)
    go false m = (zero_at v 28 2 0 m (omega arith), zero_at v 28 2 1 m (omega arith), refl)
