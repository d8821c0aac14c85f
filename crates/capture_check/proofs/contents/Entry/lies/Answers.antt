-- `Entry::lies` meets its contract. Each test is the definition's, the room that is left being counted from the end.
use Rattle.std.proofs.Common.{◌+◌, arith, rules, eq-eqb, ne_eqb, le-leb}
use Rattle.std.proofs.lemmas.Bool.{lt-leb}
use Rattle.capture_check.specs.Contents.{lies}
use Rattle.capture_check.specs.KindsLaws.{size_by_kind}
use Rattle.capture_check.proofs.contents.Entry.lies.Goals as goal

pub returns-then-self-at : goal.returns-then-self-at
unfolding lies
returns-then-self-at c = simp (ne_eqb _ _ c.if-self-at.true)

pub returns-then-end-at : goal.returns-then-end-at
unfolding lies
returns-then-end-at c =
    let a = c.args in
    simp (eq-eqb _ _ c.if-self-at.false, lt-leb (a.at + a.self.size) a.end (omega arith))

pub returns : goal.returns
unfolding lies
returns c =
    let a = c.args in
    simp (eq-eqb _ _ c.if-self-at.false, le-leb (a.at + a.self.size) a.end (omega arith)) (size_by_kind a.self.kind a.self.size _ _ c.from_number.ensures (search rules))
