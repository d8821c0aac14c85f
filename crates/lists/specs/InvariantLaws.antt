-- The invariant holds of what is fresh, stays over a call that changes nothing, and over one that changes the unit alone: the generation either
-- stays with the tables, or passes the copy's. Assumes nothing.
use Rattle.std.specs.Prelude.{ℕ, zero, suc, ◌≤◌, ◌<◌, ◌≡◌, refl, List, ◌∷◌, false, take, replicate, is_some}
use Rattle.std.proofs.Common.{arith, le_refl, sym, ap, ◌∙◌, inl, inr}
use Rattle.std.proofs.lemmas.Bool.{false≢true}
use Rattle.std.proofs.lemmas.List.{length-replicate}
use Rattle.tables.specs.Tables.{last}
use Rattle.tables.specs.GenerationLaws.{below_last}
use Rattle.unit.specs.Unit.{fresh_cache}
use Rattle.unit.specs.declared.Cache.{Cache}
use Rattle.lists.specs.States.{UnitState, State, state, fresh}
use Rattle.lists.specs.Plain.{Machine, zero_machine}
use Rattle.lists.specs.Invariant.{Rises, Matches, Inv}

take_zeros : (a n : ℕ) → a ≤ n → ◌≡◌ {A = List ℕ} (take a (replicate n 0)) (replicate a 0)
take_zeros zero n h = refl
take_zeros (suc a) zero h = absurd (omega arith)
take_zeros (suc a) (suc n) h = ap (λ (l : List ℕ). 0 ∷ l) (take_zeros a n (omega arith))

pub fresh_holds : (n : ℕ) → 474 ≤ n → Inv n 0 (fresh fresh_cache n) zero_machine
unfolding fresh zero_machine fresh_cache
fresh_holds n big =
    record {
      unit =
          record {
            file_length = length-replicate {A = ℕ} n 0;
            registers = take_zeros 474 n big;
            entries = refl;
            tables_length = length-replicate {A = ℕ} 12288 0;
            sound = λ f e. absurd (false≢true (ap is_some e));
          };
      block_length = length-replicate {A = ℕ} 328 0;
      copy_length = length-replicate {A = ℕ} 12288 0;
      behind = le_refl _;
      count = le_refl _;
      agree = λ _. refl;
    }

module _ {n k : ℕ} {s : State Cache} {m : Machine} (i : Inv n k s m) where
  pub stays : Inv n (suc k) s m
  stays =
      record {
        unit = i.unit;
        block_length = i.block_length;
        copy_length = i.copy_length;
        behind = i.behind;
        count = omega arith;
        agree = i.agree;
      }

  pub moves : {u : UnitState Cache} {q : Machine} → Matches n u q → Rises s.unit u → Inv n (suc k) (state u s.copy) q
  moves h (inl (e, t)) =
      record {
        unit = h;
        block_length = i.block_length;
        copy_length = i.copy_length;
        behind = omega arith;
        count = omega arith;
        agree = λ a. t ∙ i.agree (sym e ∙ a);
      }
  moves {u} h (inr e) =
      record {
        unit = h;
        block_length = i.block_length;
        copy_length = i.copy_length;
        behind = omega arith;
        count = omega arith;
        agree = λ (a : u.generation ≡ s.copy.generation). absurd (omega arith);
      }

  -- after fewer than 2^64 − 1 calls the generation can rise
  pub not_last : k < 0xFFFFFFFFFFFFFFFF → last s.unit.generation ≡ false
  not_last few = below_last s.unit.generation (omega arith)
