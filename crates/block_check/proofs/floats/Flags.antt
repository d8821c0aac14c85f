-- The bits of NaNs: a flag is zero exactly if its test fails. Assumes nothing.
use Prim.Native.Nat.{ℕ, ◌%◌}
use mathlib.Core.Path.{◌≡◌, refl, sym, ap, ◌∙◌}
use mathlib.Core.Bool.{Bool, true, false, not, ◌&&◌, ◌||◌}
use lib.Dec.{eqb, ltb, leb}
use mir.Val.{bool_byte}
use borrow.Author.Tests.{le-ltb, lt-ltb, leb-true, leb-false}
use Rattle.block.specs.Block.{is_number, float_formed}

flag_zero : (b : Bool) → eqb (bool_byte b) 0 ≡ not b
flag_zero true = refl
flag_zero false = refl

pub nan_flag : (n : ℕ) → eqb (bool_byte (ltb 0x7F80_0000 (n % 0x8000_0000))) 0 ≡ is_number n
unfolding is_number
nan_flag n = flag_zero (ltb 0x7F80_0000 (n % 0x8000_0000)) ∙ above (leb (n % 0x8000_0000) 0x7F80_0000) refl
  where
    above : (b : Bool) → leb (n % 0x8000_0000) 0x7F80_0000 ≡ b → not (ltb 0x7F80_0000 (n % 0x8000_0000)) ≡ b
    above true e = rw (le-ltb 0x7F80_0000 (n % 0x8000_0000) (leb-true (n % 0x8000_0000) 0x7F80_0000 e)) refl
    above false e = rw (lt-ltb 0x7F80_0000 (n % 0x8000_0000) (leb-false (n % 0x8000_0000) 0x7F80_0000 e)) refl

pub odd_flag : (n : ℕ) → eqb (bool_byte (ltb 0x7F80_0000 (n % 0x8000_0000) && not (eqb n 0x7FC0_0000))) 0 ≡ float_formed n
unfolding float_formed
odd_flag n = flag_zero (ltb 0x7F80_0000 (n % 0x8000_0000) && not (eqb n 0x7FC0_0000)) ∙ both (ltb 0x7F80_0000 (n % 0x8000_0000)) (eqb n 0x7FC0_0000) ∙ ap (λ (b : Bool). b || eqb n 0x7FC0_0000) (sym_flag n)
  where
    both : (a b : Bool) → not (a && not b) ≡ (not a || b)
    both true true = refl
    both true false = refl
    both false b = refl

    sym_flag : (m : ℕ) → not (ltb 0x7F80_0000 (m % 0x8000_0000)) ≡ is_number m
    sym_flag m = sym (flag_zero (ltb 0x7F80_0000 (m % 0x8000_0000))) ∙ nan_flag m
