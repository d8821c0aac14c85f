-- `reading::cached_read` meets its contract: each return is the definition's case for the tests that led there.
use Rattle.std.proofs.Common.{refl, sym, ◌∙◌}
use Rattle.std.proofs.lemmas.Result.{err_from_is_err_and}
use borrow.Author.Tests.{lt-leb, le-leb}
use Rattle.refusals.specs.Refusals.{file_refusal}
use Rattle.unit.specs.Unit.{refreshed, cached_read_if}
use Rattle.unit.proofs.FirstLaws.{first_current, first_anew}
use Rattle.unit.proofs.reading.cached_read.Goals as goal

pub returns-in_err-file : goal.returns-in_err-file
unfolding cached_read_if file_refusal
returns-in_err-file c =
    let p = err_from_is_err_and c.from_residual.result c.from_residual.ensures.1 in
    rw (p.1, p.2, c.in_err-file.ensures.1, lt-leb 474 _ c.in_err-file.ensures.0) refl

pub returns-then-not-is_current : goal.returns-then-not-is_current
unfolding cached_read_if file_refusal refreshed
returns-then-not-is_current c =
    let w = c.in_ok-file.file.now in
    let f = c.args.file.now in
    let e = c.in_ok-file.ensures.1 in
    simp (le-leb 474 _ c.in_ok-file.ensures.0, sym (first_current w f e c.args.cache.now) ∙ sym c.if-not-is_current.ensures, c.read_anew.ensures ∙ first_anew w f e)

pub returns-else-not-is_current : goal.returns-else-not-is_current
unfolding cached_read_if file_refusal refreshed
returns-else-not-is_current c =
    let same = first_current c.in_ok-file.file.now c.args.file.now c.in_ok-file.ensures.1 c.args.cache.now in
    simp (le-leb 474 _ c.in_ok-file.ensures.0, sym same ∙ sym c.if-not-is_current.ensures)
