-- `decoding::read` meets its contract. The length's test is the refusal's, and past it nothing that is read stands after the first 474 words.
use Rattle.std.proofs.Common.{refl, sym, ap, ◌∙◌}
use Rattle.std.proofs.lemmas.Result.{err_from_is_err_and}
use borrow.Author.Tests.{lt-leb, le-leb}
use Rattle.refusals.specs.Refusals.{file_refusal}
use Rattle.decoding.specs.Read.{file_read_if, file_read_of}
use Rattle.decoding.proofs.FileLaws.{read_first}
use Rattle.decoding.proofs.read.Goals as goal

pub returns-in_err-registers_of : goal.returns-in_err-registers_of
unfolding file_read_if file_refusal
returns-in_err-registers_of c =
    let p = err_from_is_err_and c.from_residual.result c.from_residual.ensures.1 in
    rw (p.1, p.2, c.in_err-registers_of.ensures.1, lt-leb 474 _ c.in_err-registers_of.ensures.0) refl

pub returns : goal.returns
unfolding file_read_if file_refusal
returns c =
    rw (c.decode_registers.ensures, c.in_ok-registers_of.ensures.1, read_first c.args.file.now, le-leb 474 _ c.in_ok-registers_of.ensures.0) refl
