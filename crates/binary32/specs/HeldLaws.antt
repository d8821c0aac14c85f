-- What is held between low and high is low, high, or a float above low and not above high. So what holds of the three holds of it;
-- and its upper bound is one test, of a float that is equal.
-- Assumes nothing.
use Rattle.std.specs.Prelude.{◌≡◌, refl, Bool, true, false, cond, Float}
use Rattle.std.proofs.Common.{sym, ap, ◌∙◌}
use Rattle.std.specs.Float.Ieee.{lt}
use Rattle.binary32.specs.Steps.{held_of}

pub held_cases : (P : Float → Type 0) (x low high : Float) → P low → P high → (lt low x ≡ true → lt high x ≡ false → P x) → P (held_of x low high)
unfolding held_of
held_cases P x low high l h k = first (lt low x) refl
  where
    first : (p : Bool) → lt low x ≡ p → P (cond (lt high (cond p x low)) high (cond p x low))
    first true e = second (lt high x) refl
      where
        second : (q : Bool) → lt high x ≡ q → P (cond q high x)
        second true f = h
        second false f = k e f
    first false e = second (lt high low)
      where
        second : (q : Bool) → P (cond q high low)
        second true = h
        second false = l

-- a float y that is z, and the test whether it is above high, bounded as the definitions bound z
pub bounded : (y z high : Float) (b : Bool) → y ≡ z → lt high y ≡ b → cond b high y ≡ cond (lt high z) high z
bounded y z high b e t = sym (ap (λ (k : Bool). cond k high y) t) ∙ ap (λ (k : Float). cond (lt high k) high k) e
