-- A list of calls after another is run from where the first left unit and copy. So the calls of the bodies are run body by body. Assumes nothing.
use Rattle.std.specs.Prelude.{◌≡◌, refl, List, [], ◌∷◌, ◌++◌}
use Rattle.lists.specs.States.{State, Implementation}
use Rattle.lists.specs.Calls.{Call, step, run}

pub run_append : {C : Type 0} (I : Implementation C) (s : State C) (cs ds : List Call) → run I s (cs ++ ds) ≡ run I (run I s cs) ds
unfolding run
run_append I s [] ds = refl
run_append I s (c ∷ cs) ds = run_append I (step I s c) cs ds
