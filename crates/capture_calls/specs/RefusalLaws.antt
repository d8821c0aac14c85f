-- A capture that is not refused has a form that is right: a wrong one is refused whatever its registers are. Assumes nothing.
use Rattle.std.specs.Prelude.{ℕ, ◌≡◌, refl, List, Bool, true, false, cond}
use Rattle.std.proofs.Common.{arith}
use Rattle.capture_check.specs.Contents.{contents, shaped, registers_right, capture_words_refusal}

pub not_refused_shaped : (w : List ℕ) → capture_words_refusal w ≡ 0 → shaped w ≡ true
unfolding capture_words_refusal
not_refused_shaped w e = go (shaped w) e
  where
    go : (b : Bool) → ◌≡◌ {A = ℕ} (cond b (cond (registers_right w (contents w)) 0 3) 8) 0 → b ≡ true
    go true e = refl
    go false e = absurd (omega arith)
