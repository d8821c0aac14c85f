-- `registers_read::differing` meets its contract. The invariant: `found` is the number of differences among the words passed, so at most their number.
use Rattle.std.proofs.Common.{◌≡◌, ◌+◌, refl, arith}
use Rattle.decoding.specs.Steps.{differences}
use Rattle.decoding.specs.ComparingLaws.{differences_few, differences_more}
use Rattle.decoding.proofs.registers_read.differing.Goals as goal

pub loop-j-init : goal.loop-j-init
unfolding differences
loop-j-init c = refl

pub overflow_add-found-in-loop-j-2 : goal.overflow_add-found-in-loop-j-2
overflow_add-found-in-loop-j-2 c =
    let a = c.args in
    let j = c.loop-j.j in
    omega (arith, differences_more a.file.now a.from a.kept.now a.at j, differences_few a.file.now a.from a.kept.now a.at (j + 1))

pub loop-j-preserved : goal.loop-j-preserved
loop-j-preserved c =
    let a = c.args in
    let l = c.loop-j in
    rw l.invariant (differences_more a.file.now a.from a.kept.now a.at l.j)

pub returns : goal.returns
returns c =
    let a = c.args in
    let e : c.loop-j.j ≡ a.count = omega arith in
    let d = rw e at c.loop-j.invariant in
    (d, omega (arith, differences_few a.file.now a.from a.kept.now a.at a.count))
