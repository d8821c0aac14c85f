-- `lengths::read_lengths` meets its contract: each return is the first refusal that is met.
use borrow.Author.Tests.{lt-leb, le-leb, eq-eqb, ne_eqb}
use Rattle.std.proofs.Common.{refl}
use Rattle.std.proofs.lemmas.Result.{err_from_is_err_and}
use Rattle.refusals.specs.Refusals.{file_refusal, block_refusal}
use Rattle.unit.proofs.lengths.read_lengths.Goals as goal

pub returns-in_err-file : goal.returns-in_err-file
unfolding file_refusal
returns-in_err-file c =
    let p = err_from_is_err_and c.from_residual.result c.from_residual.ensures.1 in
    rw (p.1, p.2, c.in_err-file.ensures.1, lt-leb 474 _ c.in_err-file.ensures.0) refl

pub returns-then-block-ne328 : goal.returns-then-block-ne328
unfolding file_refusal block_refusal
returns-then-block-ne328 c = simp (le-leb 474 _ c.in_ok-file.ensures.0, ne_eqb _ 328 c.if-block-ne328.true)

pub returns : goal.returns
unfolding file_refusal block_refusal
returns c = (c.in_ok-file.ensures.1, simp (le-leb 474 _ c.in_ok-file.ensures.0, eq-eqb _ 328 c.if-block-ne328.false))
