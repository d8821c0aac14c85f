-- `places::difference` meets its contract: two numbers below 256 stand in an `i32` as they are, and so does their difference.
--
use mathlib.Core.Path.{◌≡◌, refl, sym, ap, ◌∙◌, subst}
use mathlib.Core.Bool.{Bool, true, false, cond}
use Prim.Native.Nat.{ℕ, zero, suc, ◌-◌, ◌≤◌, ◌<◌}
use native.Mathlib.Nat.{add-zero, sub-zero, lt_trans}
use native.Mathlib.Omega.{arith}
use borrow.Author.Tests.{leb-true, leb-false, le-ltb, lt-ltb}
use lib.IntN.{ℤ, pos, negsuc, ◌-ℤ◌}
use lib.Signed.{mag}
use lib.Dec.{T, leb, ltb, leb-zero, le→leb, lt→ltb, lit<}
use lib.Ieee.{binary32, minus, of_int, in_float}
use mir.Syntax.{w32}
use mir.Val.{SFits, to_z, of_z}
use mir.Facts.{to_z-of_z, to_z_pos}
use Rattle.binary32.proofs.places.difference.Goals as goal

-- the two ways to write a - b
is-minus : (a b : ℕ) → pos a -ℤ pos b ≡ minus a b
is-minus a zero = ap pos (add-zero a ∙ sym (sub-zero a)) ∙ sym (ap (λ (t : Bool). cond t (pos (a - 0)) (negsuc (0 - suc a))) (leb-zero a))
is-minus a (suc b) = go (leb (suc b) a) refl
  where
    go : (t : Bool) → leb (suc b) a ≡ t → cond (ltb a (suc b)) (negsuc (suc b - suc a)) (pos (a - suc b)) ≡ cond t (pos (a - suc b)) (negsuc (suc b - suc a))
    go true e = ap (λ (u : Bool). cond u (negsuc (suc b - suc a)) (pos (a - suc b))) (le-ltb a (suc b) (leb-true (suc b) a e))
    go false e = ap (λ (u : Bool). cond u (negsuc (suc b - suc a)) (pos (a - suc b))) (lt-ltb a (suc b) (leb-false (suc b) a e))

small : (a b : ℕ) → a < 256 → b < 256 → mag (minus a b) < 256
small a b h k = go (leb b a)
  where
    less : (a b : ℕ) → a < 256 → a - b < 256
    less a b h = omega arith

    go : (t : Bool) → mag (cond t (pos (a - b)) (negsuc (b - suc a))) < 256
    go true = less a b h
    go false = less b (suc a) k

fits-float : (z : ℤ) → mag z < 256 → T (in_float binary32 z)
unfolding in_float
fits-float (pos n) h = le→leb n 16777216 (most n h)
  where
    most : (n : ℕ) → n < 256 → n ≤ 16777216
    most n h = omega arith
fits-float (negsuc n) h = lt→ltb n 16777216 (lt_trans {n = n} {m = 256} {k = 16777216} h (lit< tt))

word : (a : ℕ) → a < 256 → to_z w32 a ≡ pos a
word a h = to_z_pos w32 (lt_trans {n = a} {m = 256} {k = 2147483648} h (lit< tt))

sum : (a b : ℕ) → a < 256 → b < 256 → to_z w32 a -ℤ to_z w32 b ≡ minus a b
sum a b h k = ap (λ (z : ℤ). z -ℤ to_z w32 b) (word a h) ∙ ap (λ (z : ℤ). pos a -ℤ z) (word b k) ∙ is-minus a b

sfits : (a b : ℕ) → a < 256 → b < 256 → SFits w32 (to_z w32 a -ℤ to_z w32 b)
sfits a b h k = record { sfits = subst (λ (z : ℤ). mag z < 2147483648) (sym (sum a b h k)) (lt_trans {n = mag (minus a b)} {m = 256} {k = 2147483648} (small a b h k) (lit< tt)) }

read : (a b : ℕ) → a < 256 → b < 256 → to_z w32 (of_z w32 (to_z w32 a -ℤ to_z w32 b)) ≡ minus a b
read a b h k = to_z-of_z (sfits a b h k) ∙ sum a b h k

pub overflow_sub-result : goal.overflow_sub-result
overflow_sub-result c = sfits c.args.a c.args.b c.requires.0 c.requires.1

pub int_to_float-result : goal.int_to_float-result
int_to_float-result c =
    let a = c.args.a in
    let b = c.args.b in
    subst (λ (z : ℤ). T (in_float binary32 z)) (sym (read a b c.requires.0 c.requires.1)) (fits-float (minus a b) (small a b c.requires.0 c.requires.1))

pub returns : goal.returns
returns c = ap (of_int binary32) (read c.args.a c.args.b c.requires.0 c.requires.1)
