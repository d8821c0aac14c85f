-- Laws of restore and save. A restore is refused or gives the saved words, told by `restore_cases`, and the other laws go through these. Assumes nothing.
use Rattle.std.specs.Prelude.{◌≡◌, ℕ, zero, suc, ◌+◌, Bool, true, false, cond, ◌⊎◌, List, length}
use Rattle.std.proofs.Math.Path.{refl}
use Rattle.std.proofs.Common.{inl, inr}
use Rattle.refusals.specs.Refusals.{tables_refusal, saved_refusal}
use Rattle.tables.specs.Tables.{last, Restored, restored, restore_refusal, restore_if, restore, saved, save_refusal, save_if, save}
use Rattle.tables.specs.RefusalLaws.{restore_lengths}

-- past 2 and 5, below the last generation
pub restore_data : (t : List ℕ) (g : ℕ) (s : List ℕ) → restore_refusal (length t) s ≡ 0 → last g ≡ false → restore t g s ≡ restored 0 s (g + 1)
unfolding restore_if
restore_data t g s e l = rw (e, l) refl

-- what holds of a refused restore and of one that is done holds of every restore
pub restore_cases : (P : Restored → Type 0) (t : List ℕ) (g : ℕ) (s : List ℕ) → ((k : ℕ) → P (restored (suc k) t g)) → (length t ≡ 12288 → length s ≡ 12288 → P (restored 0 s (g + 1))) → P (restore t g s)
unfolding restore_if
restore_cases P t g s refused done = go (restore_refusal (length t) s) refl
  where
    picked : P (restored 0 s (g + 1)) → (b : Bool) → P (cond b (restored 4 t g) (restored 0 s (g + 1)))
    picked p true = refused 3
    picked p false = p

    go : (q : ℕ) → restore_refusal (length t) s ≡ q → P (restore_if q t g s)
    go zero e = let h = restore_lengths (length t) s e in picked (done h.0 h.1) (last g)
    go (suc k) e = refused k

module _ (t : List ℕ) (g : ℕ) (s : List ℕ) where
  -- the generation stays with the tables, or rises by one
  pub restore-generation : (((restore t g s).generation ≡ g) × ((restore t g s).tables ≡ t)) ⊎ (((restore t g s).generation ≡ g + 1) × ((restore t g s).tables ≡ s))
  restore-generation =
      restore_cases (λ w. ((w.generation ≡ g) × (w.tables ≡ t)) ⊎ ((w.generation ≡ g + 1) × (w.tables ≡ s))) t g s
      (λ k. inl (refl, refl))
      (λ a b. inr (refl, refl))

  -- below the last generation 4 is not met
  pub restore-number : last g ≡ false → (restore t g s).number ≡ restore_refusal (length t) s
  unfolding restore_if
  restore-number n = go (restore_refusal (length t) s)
    where
      go : (q : ℕ) → (restore_if q t g s).number ≡ q
      go zero = rw n refl
      go (suc k) = refl

-- a save past 2 and 5 gives the tables' words
pub save_data : (t s : List ℕ) → save_refusal (length t) (length s) ≡ 0 → save t s ≡ saved 0 t
unfolding save_if
save_data t s e = rw e refl

-- which come back by a restore
pub saved_restores : (t s u : List ℕ) (g : ℕ) → length t ≡ 12288 → length s ≡ 12288 → length u ≡ 12288 → last g ≡ false → restore u g (save t s).output ≡ restored 0 t (g + 1)
unfolding tables_refusal saved_refusal
saved_restores t s u g ht hs hu n =
    let e : save_refusal (length t) (length s) ≡ 0 = rw (ht, hs) refl in
    let d : restore_refusal (length u) t ≡ 0 = rw (ht, hu) refl in
    rw (save_data t s e) (restore_data u g t d n)
