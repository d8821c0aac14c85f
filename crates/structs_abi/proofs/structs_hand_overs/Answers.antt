-- `structs_abi::structs_hand_overs` meets its contract. The loop's invariant: what the pairs that are left make of what stands now is what all of them
-- make of what stood first.
use Rattle.std.proofs.Common.{ℕ, suc, ◌+◌, ◌-◌, ◌≤◌, ◌<◌, ◌≡◌, List, refl, ap, ◌∙◌, arith}
use Rattle.unit.specs.Unit.{Handed}
use Rattle.unit.specs.declared.Cache.{Cache}
use Rattle.structs_abi.specs.HandOvers.{next, hand_overs, copied, copy_of}
use Rattle.structs_abi.proofs.structs_hand_overs.Goals as goal

module _ (f o t : List ℕ) (g k : ℕ) where
  -- pair i of n, from h by way of m to l
  pair : (n i : ℕ) (h m l : Handed Cache) → i < n → m ≡ next f t g h → l ≡ next o t k m → hand_overs f o t g k (n - (i + 1)) l ≡ hand_overs f o t g k (n - i) h
  unfolding hand_overs
  pair n i h m l p a b =
      let e : n - i ≡ suc (n - (i + 1)) = omega arith in
      rw (e, b, a) refl

  -- no pair is left
  ended : (n i : ℕ) (h : Handed Cache) (r : ℕ) → n ≤ i → r ≡ h.number → copied r h.block h.tables h.generation ≡ copy_of (hand_overs f o t g k (n - i) h)
  unfolding hand_overs
  ended n i h r p e =
      let z : n - i ≡ 0 = omega arith in
      rw (z, e) refl

pub loop-init : goal.loop-init
loop-init c = let e : c.args.pairs - 0 ≡ c.args.pairs = omega arith in rw (c.fresh_cache-cache.ensures, e)

pub loop-preserved : goal.loop-preserved
unfolding next
loop-preserved c =
    let a = c.args in
    pair a.file.now a.other.now a.tables.now a.first a.second a.pairs c.loop.counter _ _ _ (omega arith) c.hand_over.ensures c.hand_over-last.ensures ∙ c.loop.invariant

pub returns : goal.returns
returns c =
    let a = c.args in
    ended a.file.now a.other.now a.tables.now a.first a.second a.pairs c.loop.counter _ _ (omega arith) c.outcome_number.ensures ∙ ap copy_of c.loop.invariant
