-- Words of flags, both ways. A flag is its weight times 0 or 1, and the flags of a word have different powers of 2 as weights.
-- Assumes nothing.
use Rattle.std.specs.Prelude.{ℕ, zero, suc, ◌+◌, ◌*◌, ◌/◌, ◌%◌, ◌<◌, ◌≤◌, ◌≡◌, refl, Bool, true, false, eqb, ltb}
use Rattle.std.proofs.Common.{arith, ap, ◌∙◌, lt-ltb, ltb-true}
use Rattle.block.specs.Block.{bit_of, flag_word, bit_at}

pub flag_is : (b : Bool) (w : ℕ) → flag_word b w ≡ w * bit_of b
unfolding flag_word
flag_is true w = omega arith
flag_is false w = omega arith

pub bit_small : (b : Bool) → bit_of b ≤ 1
bit_small true = omega arith
bit_small false = omega arith

pub bit_formed : (b : Bool) → ltb (bit_of b) 2 ≡ true
bit_formed true = refl
bit_formed false = refl

pub bit_back : (b : Bool) → eqb (bit_of b) 1 ≡ b
bit_back true = refl
bit_back false = refl

pub back : (n : ℕ) (b : Bool) → n ≡ bit_of b → eqb n 1 ≡ b
back n b e = ap (λ (k : ℕ). eqb k 1) e ∙ bit_back b

pub small_bit : (n : ℕ) → ltb n 2 ≡ true → bit_of (eqb n 1) ≡ n
small_bit zero h = refl
small_bit (suc zero) h = refl
small_bit (suc (suc n)) h = let k : suc (suc n) < 2 = ltb-true (suc (suc n)) 2 h in absurd (omega arith)

pub flag_bit : (m k : ℕ) → m < 2 → flag_word (eqb m 1) k ≡ k * m
flag_bit m k h = flag_is (eqb m 1) k ∙ ap (λ (x : ℕ). k * x) (small_bit m (lt-ltb m 2 h))

-- seven flags, from bit 0 on
unfoldable pub flags7 : Bool → Bool → Bool → Bool → Bool → Bool → Bool → ℕ
flags7 a b c d e f g = flag_word a 1 + flag_word b 2 + flag_word c 4 + flag_word d 8 + flag_word e 16 + flag_word f 32 + flag_word g 64

module _ (a b c d e f g : Bool) where
  plain : flags7 a b c d e f g ≡ bit_of a + 2 * bit_of b + 4 * bit_of c + 8 * bit_of d + 16 * bit_of e + 32 * bit_of f + 64 * bit_of g
  unfolding flags7
  plain = omega (arith, flag_is a 1, flag_is b 2, flag_is c 4, flag_is d 8, flag_is e 16, flag_is f 32, flag_is g 64)

  pub flag_0 : bit_at (flags7 a b c d e f g) 1 ≡ a
  flag_0 = back (flags7 a b c d e f g / 1 % 2) a (omega (arith, plain, bit_small a))

  pub flag_1 : bit_at (flags7 a b c d e f g) 2 ≡ b
  flag_1 = back (flags7 a b c d e f g / 2 % 2) b (omega (arith, plain, bit_small a, bit_small b))

  pub flag_2 : bit_at (flags7 a b c d e f g) 4 ≡ c
  flag_2 = back (flags7 a b c d e f g / 4 % 2) c (omega (arith, plain, bit_small a, bit_small b, bit_small c))

  pub flag_3 : bit_at (flags7 a b c d e f g) 8 ≡ d
  flag_3 = back (flags7 a b c d e f g / 8 % 2) d (omega (arith, plain, bit_small a, bit_small b, bit_small c, bit_small d))

  pub flag_4 : bit_at (flags7 a b c d e f g) 16 ≡ e
  flag_4 = back (flags7 a b c d e f g / 16 % 2) e (omega (arith, plain, bit_small a, bit_small b, bit_small c, bit_small d, bit_small e))

  pub flag_5 : bit_at (flags7 a b c d e f g) 32 ≡ f
  flag_5 = back (flags7 a b c d e f g / 32 % 2) f (omega (arith, plain, bit_small a, bit_small b, bit_small c, bit_small d, bit_small e, bit_small f))

  pub flag_6 : bit_at (flags7 a b c d e f g) 64 ≡ g
  flag_6 = back (flags7 a b c d e f g / 64 % 2) g (omega (arith, plain, bit_small a, bit_small b, bit_small c, bit_small d, bit_small e, bit_small f, bit_small g))

  pub flags_small : flags7 a b c d e f g < 128
  flags_small = omega (arith, plain, bit_small a, bit_small b, bit_small c, bit_small d, bit_small e, bit_small f, bit_small g)

-- a word's bits, one after the other: q is what is left above each
chain7 : (n a b c d e f g q1 q2 q3 q4 q5 q6 q7 : ℕ)
    → n ≡ 2 * q1 + a
    → q1 ≡ 2 * q2 + b
    → q2 ≡ 2 * q3 + c
    → q3 ≡ 2 * q4 + d
    → q4 ≡ 2 * q5 + e
    → q5 ≡ 2 * q6 + f
    → q6 ≡ 2 * q7 + g
    → q7 ≡ 0
    → 1 * a + 2 * b + 4 * c + 8 * d + 16 * e + 32 * f + 64 * g ≡ n
chain7 n a b c d e f g q1 q2 q3 q4 q5 q6 q7 e1 e2 e3 e4 e5 e6 e7 z = omega arith

pub flags_back : (n : ℕ) → n < 128 → flags7 (bit_at n 1) (bit_at n 2) (bit_at n 4) (bit_at n 8) (bit_at n 16) (bit_at n 32) (bit_at n 64) ≡ n
unfolding flags7
flags_back n h =
    rw (flag_bit (n / 1 % 2) 1 (omega arith), flag_bit (n / 2 % 2) 2 (omega arith), flag_bit (n / 4 % 2) 4 (omega arith), flag_bit (n / 8 % 2) 8 (omega arith), flag_bit (n / 16 % 2) 16 (omega arith), flag_bit (n / 32 % 2) 32 (omega arith), flag_bit (n / 64 % 2) 64 (omega arith))
    (chain7 n (n / 1 % 2) (n / 2 % 2) (n / 4 % 2) (n / 8 % 2) (n / 16 % 2) (n / 32 % 2) (n / 64 % 2) (n / 2) (n / 4) (n / 8) (n / 16) (n / 32) (n / 64) (n / 128)
    (omega arith) (omega arith) (omega arith) (omega arith) (omega arith) (omega arith) (omega arith) (omega arith))

-- the two needs
pub needs_back : (a b : Bool) → (bit_at (flag_word a 1 + flag_word b 2) 1 ≡ a) × (bit_at (flag_word a 1 + flag_word b 2) 2 ≡ b)
unfolding flag_word
needs_back true true = (refl, refl)
needs_back true false = (refl, refl)
needs_back false true = (refl, refl)
needs_back false false = (refl, refl)

pub needs_small : (a b : Bool) → ltb (flag_word a 1 + flag_word b 2) 4 ≡ true
unfolding flag_word
needs_small true true = refl
needs_small true false = refl
needs_small false true = refl
needs_small false false = refl

sum2 : (n a b : ℕ) → n < 4 → a ≡ 1 * (n / 1 % 2) → b ≡ 2 * (n / 2 % 2) → a + b ≡ n
sum2 n a b h p q = omega arith

pub needs_word_back : (n : ℕ) → ltb n 4 ≡ true → flag_word (bit_at n 1) 1 + flag_word (bit_at n 2) 2 ≡ n
needs_word_back n h = sum2 n _ _ (ltb-true n 4 h) (flag_bit (n / 1 % 2) 1 (omega arith)) (flag_bit (n / 2 % 2) 2 (omega arith))
