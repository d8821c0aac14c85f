-- One step of the definitions that read a width: what they give from a place on is what they give after the byte there. Assumes nothing.
use Rattle.std.proofs.Common.{sym, ℕ, ◌+◌, ◌-◌, ◌*◌, ◌<◌, min, add-one, ◌≡◌, refl, ◌∙◌, cond, true, false, Some, None, true≢false, List, [], ◌∷◌, ◌==◌, length, drop, get_or, drop-cons}
use Rattle.std.proofs.Math.Dec.{eqb-suc-zero}
use Rattle.std.proofs.Math.Seq.{drop-length}
use Rattle.std.specs.Char.{is_ascii_digit}
use Rattle.census.specs.Arguments.{digits_from, width_of}

pub none : (t : List ℕ) → (length t == 0) ≡ true → None ≡ width_of t
unfolding width_of
none [] e = refl
none (b ∷ bs) e = absurd (true≢false (sym (rw eqb-suc-zero at e)))

pub some : (t : List ℕ) → (length t == 0) ≡ false → digits_from 0 t ≡ width_of t
unfolding width_of
some [] e = absurd (true≢false e)
some (b ∷ bs) e = refl

pub at_end : (t : List ℕ) (i n : ℕ) → i ≡ length t → digits_from n (drop i t) ≡ Some n
unfolding digits_from
at_end t i n e = rw (e, drop-length t) refl

-- one byte
module _ (t : List ℕ) (i n : ℕ) (h : i < length t) where
  at_byte : digits_from n (drop i t) ≡ cond (is_ascii_digit (get_or t i 0)) (digits_from (min (n * 10 + (get_or t i 0 - 48)) 1000) (drop (i + 1) t)) None
  unfolding digits_from
  at_byte = rw (drop-cons t i 0 h, add-one) refl

  pub no_digit : is_ascii_digit (get_or t i 0) ≡ false → digits_from n (drop i t) ≡ None
  no_digit e = at_byte ∙ rw e refl

  pub digit : is_ascii_digit (get_or t i 0) ≡ true → digits_from n (drop i t) ≡ digits_from (min (n * 10 + (get_or t i 0 - 48)) 1000) (drop (i + 1) t)
  digit e = at_byte ∙ rw e refl
