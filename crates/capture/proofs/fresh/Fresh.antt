-- A fresh unit and a fresh copy print as the machine does: their slices and what is held beside them are those that the theorem about the
-- copy's prints speaks of. Assumes nothing.
use Rattle.std.proofs.Common.{ℕ, ◌≤◌, ◌≡◌, List, length, replicate}
use Rattle.unit.specs.declared.Cache.{Cache}
use Rattle.unit.specs.Unit.{fresh_cache}
use Rattle.lists.specs.States.{fresh}
use Rattle.lists.specs.Plain.{zero_machine}
use Rattle.capture_check.specs.Contents.{contents, capture_words_refusal}
use Rattle.capture_calls.specs.Steps.{copy_prints}
use Rattle.capture_calls.specs.Capture.{machine_prints}
use Rattle.capture_calls.proofs.MachineLaws.{copy_prints_as_machine}
use Rattle.capture_body.specs.Steps.{lent_state}
use Rattle.capture_calls.specs.RefusalLaws.{not_refused_shaped}

pub fresh_prints : (w : List ℕ) (c : Cache) → length w ≤ 16384 → capture_words_refusal w ≡ 0 → c ≡ fresh_cache → copy_prints w (contents w) (lent_state (replicate 474 0) (replicate 12288 0) (replicate 328 0) (replicate 12288 0) (record { generation = 0; cache = c; age = 0 })) ≡ machine_prints w (contents w) zero_machine
unfolding fresh
fresh_prints w c few e q = rw q (copy_prints_as_machine w few (not_refused_shaped w e))
