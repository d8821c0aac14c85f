-- `answer_bytes::put` meets its contract. The loop's invariant: the first i words stand in the first 4 i bytes.
use Rattle.std.proofs.Common.{◌≡◌, ◌+◌, ◌*◌, ◌++◌, length, get_or, refl, sym, ap, ap₂, ◌∙◌, List, ℕ, arith, rules}
use Rattle.std.proofs.lemmas.Slice.{take-put_mid}
use Rattle.std.proofs.lemmas.List.{take_all}
use Rattle.lighting_abi.specs.Boundary.{bytes_of}
use Rattle.lighting_abi.proofs.answer_bytes.Bytes.{bytes_of_one, bytes_more}
use Rattle.lighting_abi.proofs.answer_bytes.put.Goals as goal

pub loop-i-init : goal.loop-i-init
unfolding bytes_of
loop-i-init c = refl

pub loop-i-preserved : goal.loop-i-preserved
loop-i-preserved c =
    let l = c.loop-i in
    let k = c.args.channels in
    let channel : ℕ = get_or k l.i 0 in
    let bytes = c.copy_from_slice.ensures.after ∙ c.to_le_bytes.ensures in
    let four : length c.copy_from_slice.new.self ≡ 4 = ap length bytes in
    take-put_mid (4 * l.i) _ l.answer c.copy_from_slice.new.self (4 * (l.i + 1)) (omega arith) (omega (arith, l.auto.answer, c.requires))
    ∙ ap₂ (λ (x y : List ℕ). x ++ y) l.invariant (bytes ∙ bytes_of_one channel (search rules))
    ∙ sym (bytes_more k l.i (omega arith))

pub returns : goal.returns
returns c =
    let l = c.loop-i in
    let k = c.args.channels in
    sym (take_all (4 * l.i) l.answer (omega (arith, l.auto.answer, c.requires))) ∙ l.invariant ∙ ap bytes_of (take_all l.i k (omega arith))
