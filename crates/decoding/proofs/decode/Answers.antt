-- `decoding::decode` meets its contract. Nothing that is read stands after the first 474 words, and a register that a shorter file doesn't have reads as 0.
use Rattle.std.proofs.Common.{rules, ℕ, arith, sym, ◌∙◌, ◌≡◌, ◌≤◌, ◌<◌, length}
use Rattle.std.proofs.lemmas.List.{drop-replicate}
use lib.Seq.{length-take-le}
use Rattle.decoding.proofs.FileLaws.{read_first, read_padded}
use Rattle.decoding.proofs.decode.Goals as goal

pub returns-in-Some : goal.returns-in-Some
returns-in-Some c = rw (c.decode_registers.ensures, c.in-Some.ensures.cases.same) (read_first c.args.file.now)

pub slice_bounds-words-end : goal.slice_bounds-words-end
slice_bounds-words-end c =
    let short : length c.args.file.now < 474 = c.in_default.ensures.cases in
    omega arith

pub slice_bounds-copy_from_slice-end : goal.slice_bounds-copy_from_slice-end
slice_bounds-copy_from_slice-end c =
    let short : length c.args.file.now < 474 = c.in_default.ensures.cases in
    sym (length-take-le _ _ (omega arith))

pub copy_from_slice-requires : goal.copy_from_slice-requires
copy_from_slice-requires c =
    let short : length c.args.file.now < 474 = c.in_default.ensures.cases in
    length-take-le _ _ (omega arith)

pub returns : goal.returns
returns c =
    rw (c.decode_registers-2.ensures, c.copy_from_slice.ensures.after, drop-replicate {X = ℕ} (length c.args.file.now) 474 0) (read_padded c.args.file.now _)
