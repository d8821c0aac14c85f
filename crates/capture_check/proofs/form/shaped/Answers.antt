-- `form::shaped` meets its contract. Each test is the definition's; no words at all are too few for any contents.
use Rattle.std.proofs.Common.{arith, le-leb, eqb-true, length, sym, ◌∙◌}
use Rattle.std.proofs.lemmas.Bool.{lt-leb}
use mathlib.Core.Bool.{and-false}
use Rattle.capture_check.specs.Contents.{shaped, contents_end, body_count}
use Rattle.capture_check.proofs.form.shaped.Goals as goal

pub returns-then-is_empty : goal.returns-then-is_empty
unfolding shaped
returns-then-is_empty c =
    let w = c.args.words.now in
    simp (lt-leb (contents_end (body_count w)) (length w) (omega (arith, eqb-true (length w) 0 (sym c.is_empty.ensures ∙ c.if-is_empty.true))), and-false)

pub returns-then-count-gt16 : goal.returns-then-count-gt16
unfolding shaped
returns-then-count-gt16 c = simp (lt-leb _ _ c.if-count-gt16.true)

pub returns-then-words-end : goal.returns-then-words-end
unfolding shaped
returns-then-words-end c = simp (le-leb _ _ c.if-count-gt16.false, lt-leb _ _ c.if-words-end.true)

pub returns : goal.returns
unfolding shaped
returns c = rw (le-leb _ 16 c.if-count-gt16.false, le-leb _ _ c.if-words-end.false, ← c.triples.ensures) c.gapless.ensures
