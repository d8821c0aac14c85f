-- A call that is lent a cache whose length it refuses changes nothing, so demand 3 holds of lists with such calls too. Assumes nothing.
use Rattle.std.specs.Prelude.{ℕ, zero, suc, ◌≤◌, ◌≡◌, List, [], ◌∷◌, length}
use Rattle.std.proofs.Common.{arith, sym, ap, ◌∙◌}
use Rattle.std.proofs.Math.Path.{refl}
use Rattle.refusals.specs.Refusals.{file_refusal, ◌else◌}
use Rattle.unit.specs.Unit.{Cached, Handed, hand_over_refusal}
use Rattle.unit.proofs.MeaningLaws.{other_read_refused, other_hand_over_refused}
use Rattle.lists.specs.States.{State, fresh}
use Rattle.lists.specs.Calls.{Call, lent, step, answer, run}
use Rattle.lists.specs.Calls.Call.{Write, Restore, Read, HandOver}
use Rattle.lists.proofs.LentLaws.{left-lent}
use Rattle.lists.specs.Claim.{Demand3}
use Rattle.lists.specs.InWords.{in_words}
use Rattle.lists.specs.LentCache.{NotCache, TakesCache, WordCall, with_cache, word_step, word_run, owns, Demand3Lent}
use Rattle.lists.specs.LentCache.WordCall.{on_own, on_lent}
use Rattle.lists.proofs.InWordsLaws.{every_list_shades_alike_in_words}

module _ (s : State (List ℕ)) (c : List ℕ) (h : NotCache (length c)) where
  lent_changes_nothing : (call : Call) → TakesCache call → with_cache s.unit.cache (step in_words (with_cache c s) call) ≡ s
  unfolding step
  lent_changes_nothing (Write f t r v) e = absurd e
  lent_changes_nothing (Restore t saved) e = absurd e
  lent_changes_nothing (Read f) e = refl
  lent_changes_nothing (HandOver f t ct b) e =
      rw (other_hand_over_refused c h (lent s.unit.file f) (lent s.unit.tables t) s.unit.generation (lent s.copy.block b) (lent s.copy.tables ct) s.copy.generation, left-lent s.copy.block b, left-lent s.copy.tables ct) refl

  not_zero : (q : ℕ) → q else 101 ≡ 0 → ⊥
  not_zero zero e = omega arith
  not_zero (suc q) e = omega arith

  -- and it is refused
  pub lent_refused : (call : Call) → TakesCache call → answer in_words (with_cache c s) call ≡ 0 → ⊥
  unfolding answer
  lent_refused (Write f t r v) e z = absurd e
  lent_refused (Restore t saved) e z = absurd e
  lent_refused (Read f) e z =
      not_zero (file_refusal (length (lent s.unit.file f)))
      (sym (ap (λ (w : Cached (List ℕ)). w.number) (other_read_refused c h (lent s.unit.file f))) ∙ z)
  lent_refused (HandOver f t ct b) e z =
      not_zero (hand_over_refusal (length (lent s.unit.file f)) (length (lent s.unit.tables t)) (length (lent s.copy.tables ct)) (length (lent s.copy.block b)))
      (sym (ap (λ (w : Handed (List ℕ)). w.number) (other_hand_over_refused c h (lent s.unit.file f) (lent s.unit.tables t) s.unit.generation (lent s.copy.block b) (lent s.copy.tables ct) s.copy.generation)) ∙ z)

owns-run : (s : State (List ℕ)) (cs : List WordCall) → word_run s cs ≡ run in_words s (owns cs)
unfolding word_run word_step owns run
owns-run s [] = refl
owns-run s (on_own call ∷ cs) = owns-run (step in_words s call) cs
owns-run s (on_lent c h call t ∷ cs) =
    ap (λ (x : State (List ℕ)). word_run x cs) (lent_changes_nothing s c h call t) ∙ owns-run s cs

owns_fewer : (cs : List WordCall) → length (owns cs) ≤ length cs
unfolding owns
owns_fewer [] = omega arith
owns_fewer (on_own call ∷ cs) = omega (arith, owns_fewer cs)
owns_fewer (on_lent c h call t ∷ cs) = omega (arith, owns_fewer cs)

pub every_list_shades_alike_lent : Demand3Lent
unfolding Demand3Lent Demand3
every_list_shades_alike_lent n big calls few =
    rw (owns-run (fresh in_words.empty_cache n) calls)
    (every_list_shades_alike_in_words n big (owns calls) (omega (arith, owns_fewer calls)))
