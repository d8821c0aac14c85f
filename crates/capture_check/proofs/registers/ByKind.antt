-- What is right of a body by its kind: only register writes have registers. Assumes nothing.
use Rattle.std.proofs.Common.{ℕ, ◌≡◌, List, Bool, true, Some, None, sym, refl}
use Rattle.capture_check.specs.declared.contents.BodyKind.TheVariants.{Writes, Fragments, Restore}
use Rattle.capture_check.specs.Contents.{registers_in, body_right}
use Rattle.capture_check.specs.Kinds.{kind_of}
use Rattle.capture_check.specs.KindsLaws.{kind_is, kind_none}

module _ (n : ℕ) (ws : List ℕ) where
  pub writes_right : (r : Bool) → Some Writes ≡ kind_of n → r ≡ registers_in ws → r ≡ body_right n ws
  unfolding body_right
  writes_right r e s = rw (kind_is n Writes (sym e)) s

  pub fragments_right : Some Fragments ≡ kind_of n → true ≡ body_right n ws
  unfolding body_right
  fragments_right e = rw (kind_is n Fragments (sym e)) refl

  pub restore_right : Some Restore ≡ kind_of n → true ≡ body_right n ws
  unfolding body_right
  restore_right e = rw (kind_is n Restore (sym e)) refl

  pub none_right : None ≡ kind_of n → true ≡ body_right n ws
  unfolding body_right
  none_right e = rw ((kind_none n (sym e)).0) refl
