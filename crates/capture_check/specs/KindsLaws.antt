-- A kind's number, and what it says of a size: the definition's, kind by kind. Assumes nothing.
use Rattle.std.specs.Prelude.{ℕ, ◌≡◌, refl, Bool, true, false, cond, eqb, Option, Some, None}
use Rattle.std.proofs.Common.{eqb-true, sym, ◌∙◌}
use Rattle.std.specs.Option.{MatchOption}
use Rattle.capture_check.specs.declared.contents.BodyKind.{BodyKind}
use Rattle.capture_check.specs.declared.contents.BodyKind.TheVariants.{Writes, Fragments, Restore}
use Rattle.capture_check.specs.Contents.{size_right}
use Rattle.capture_check.specs.Kinds.{kind_of, takes}

-- the number of a kind
abbrev pub number : BodyKind → ℕ
number Writes = 1
number Fragments = 2
number Restore = 3

pub kind_is : (n : ℕ) (k : BodyKind) → kind_of n ≡ Some k → n ≡ number k
unfolding kind_of
kind_is n k = go (eqb n 1) (eqb n 2) (eqb n 3) refl refl refl k
  where
    go : (a b c : Bool) → eqb n 1 ≡ a → eqb n 2 ≡ b → eqb n 3 ≡ c → (k : BodyKind) → ◌≡◌ {A = Option BodyKind} (cond a (Some Writes) (cond b (Some Fragments) (cond c (Some Restore) None))) (Some k) → n ≡ number k
    go true b c p q r Writes e = eqb-true n 1 p
    go true b c p q r Fragments e = cc
    go true b c p q r Restore e = cc
    go false true c p q r Writes e = cc
    go false true c p q r Fragments e = eqb-true n 2 q
    go false true c p q r Restore e = cc
    go false false true p q r Writes e = cc
    go false false true p q r Fragments e = cc
    go false false true p q r Restore e = eqb-true n 3 r
    go false false false p q r k e = cc

pub kind_none : (n : ℕ) → kind_of n ≡ None → (eqb n 1 ≡ false) × (eqb n 2 ≡ false) × (eqb n 3 ≡ false)
unfolding kind_of
kind_none n = go (eqb n 1) (eqb n 2) (eqb n 3)
  where
    go : (a b c : Bool) → ◌≡◌ {A = Option BodyKind} (cond a (Some Writes) (cond b (Some Fragments) (cond c (Some Restore) None))) None → (a ≡ false) × (b ≡ false) × (c ≡ false)
    go true b c e = cc
    go false true c e = cc
    go false false true e = cc
    go false false false e = (refl, refl, refl)

pub size_of_kind : (n size : ℕ) (k : BodyKind) → kind_of n ≡ Some k → takes k size ≡ size_right n size
unfolding takes size_right
size_of_kind n size Writes e = rw (kind_is n Writes e) refl
size_of_kind n size Fragments e = rw (kind_is n Fragments e) refl
size_of_kind n size Restore e = rw (kind_is n Restore e) refl

pub size_of_none : (n size : ℕ) → kind_of n ≡ None → size_right n size ≡ false
unfolding size_right
size_of_none n size e = let none = kind_none n e in rw (none.0, none.1, none.2) refl

pub size_by_kind : (n size : ℕ) (k : Option BodyKind) (r : Bool) → k ≡ kind_of n → MatchOption k (r ≡ false) (λ (x : BodyKind). r ≡ takes x size) → r ≡ size_right n size
size_by_kind n size (Some k) r e m = m ∙ size_of_kind n size k (sym e)
size_by_kind n size None r e m = m ∙ sym (size_of_none n size (sym e))
