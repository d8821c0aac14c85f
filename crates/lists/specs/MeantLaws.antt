-- Demand 3 carries over to an implementation whose caches mean those of one that meets it: runs correspond, call by call. Assumes nothing.
use Rattle.std.specs.Prelude.{ℕ, ◌≡◌}
use Rattle.std.proofs.Math.Path.{refl, ap, subst}
use Rattle.std.proofs.Common.{sym, ◌∙◌}
use mathlib.Core.List.{List, [], ◌∷◌}
use Rattle.tables.specs.Tables.{Wrote, Restored}
use Rattle.unit.specs.Unit.{Cached, Handed}
use Rattle.lists.specs.States.{State, unit_state, copy_state, state, fresh, Implementation}
use Rattle.lists.specs.Calls.{Call, lent, left, step, answer, run}
use Rattle.lists.specs.Calls.Call.{Write, Restore, Read, HandOver}
use Rattle.lists.specs.Claim.{After, Demand3, Answered, Answers}
use Rattle.lists.specs.Meant.{state_as, Meant}

module _ {C D : Type 0} (I : Implementation C) (J : Implementation D) (means : D → C) (Good : D → Type 0) (m : Meant I J means Good) where
  -- one call
  module _ (s : State D) (good : Good s.unit.cache) where
    step_meant : (c : Call) → state_as means (step J s c) ≡ step I (state_as means s) c
    unfolding step
    step_meant (Write f t r v) =
        let u = s.unit in
        ap (λ (w : Wrote). state (unit_state (left u.file f w.file) (left u.tables t w.tables) w.generation (means u.cache)) s.copy)
        (m.writes (lent u.file f) (lent u.tables t) u.generation r v)
    step_meant (Restore t saved) =
        let u = s.unit in
        ap (λ (w : Restored). state (unit_state u.file (left u.tables t w.tables) w.generation (means u.cache)) s.copy)
        (m.restores (lent u.tables t) u.generation saved)
    step_meant (Read f) =
        let u = s.unit in
        ap (λ (w : Cached C). state (unit_state u.file u.tables u.generation w.cache) s.copy)
        (m.reads (lent u.file f) u.cache good)
    step_meant (HandOver f t ct b) =
        let u = s.unit in
        let k = s.copy in
        ap (λ (w : Handed C). state (unit_state u.file u.tables u.generation w.cache) (copy_state (left k.block b w.block) (left k.tables ct w.tables) w.generation))
        (m.hands_over (lent u.file f) (lent u.tables t) u.generation u.cache (lent k.block b) (lent k.tables ct) k.generation good)

    step_good : (c : Call) → Good (step J s c).unit.cache
    unfolding step
    step_good (Write f t r v) = good
    step_good (Restore t saved) = good
    step_good (Read f) = m.read_good _ _ good
    step_good (HandOver f t ct b) = m.handed_good _ _ _ _ _ _ _ good

    answer_meant : (c : Call) → answer J s c ≡ answer I (state_as means s) c
    unfolding answer
    answer_meant (Write f t r v) = ap (λ (w : Wrote). w.number) (m.writes _ _ _ _ _)
    answer_meant (Restore t saved) = ap (λ (w : Restored). w.number) (m.restores _ _ _)
    answer_meant (Read f) = ap (λ (w : Cached C). w.number) (m.reads _ _ good)
    answer_meant (HandOver f t ct b) = ap (λ (w : Handed C). w.number) (m.hands_over _ _ _ _ _ _ _ good)

  -- every list
  run_meant : (s : State D) → Good s.unit.cache → (cs : List Call) → (state_as means (run J s cs) ≡ run I (state_as means s) cs) × Good (run J s cs).unit.cache
  unfolding run
  run_meant s good [] = (refl, good)
  run_meant s good (c ∷ cs) =
      let rest = run_meant (step J s c) (step_good s good c) cs in
      (rest.0 ∙ ap (λ (x : State C). run I x cs) (step_meant s good c), rest.1)

  fresh_meant : (n : ℕ) → state_as means (fresh J.empty_cache n) ≡ fresh I.empty_cache n
  unfolding fresh
  fresh_meant n = rw m.empty refl

  fresh_good : (n : ℕ) → Good (fresh J.empty_cache n).unit.cache
  unfolding fresh
  fresh_good n = m.empty_good

  -- after a list
  module _ (n : ℕ) (calls : List Call) where
    reached : State D
    reached = run J (fresh J.empty_cache n) calls

    reached_meant : state_as means reached ≡ run I (fresh I.empty_cache n) calls
    unfolding reached
    reached_meant =
        (run_meant (fresh J.empty_cache n) (fresh_good n) calls).0 ∙ ap (λ (x : State C). run I x calls) (fresh_meant n)

    reached_good : Good reached.unit.cache
    unfolding reached
    reached_good = (run_meant (fresh J.empty_cache n) (fresh_good n) calls).1

  pub demand3_meant : Demand3 I → Demand3 J
  unfolding Demand3 reached
  demand3_meant d n big calls few =
      let h : After I n calls (state_as means (reached n calls)) = rw (reached_meant n calls) (d n big calls few) in
      record {
        same = h.same;
        shades = λ end fragment answer hf ha. m.shades _ _ fragment answer ∙ h.shades end fragment answer hf ha;
      }

  pub answers_meant : Answers I → Answers J
  unfolding Answers reached
  answers_meant a n big calls c few =
      subst (λ (q : ℕ). Answered n c q)
      (sym (answer_meant (reached n calls) (reached_good n calls) c ∙ ap (λ (x : State C). answer I x c) (reached_meant n calls)))
      (a n big calls c few)
