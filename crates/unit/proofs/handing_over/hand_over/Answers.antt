-- `handing_over::hand_over` meets its contract. Past the refusals by length the cache is the one that the read leaves, kept or read anew, and what the copy
-- takes of it is the definition's.
use Rattle.std.proofs.Common.{◌≡◌, sym, ◌∙◌}
use Rattle.std.proofs.lemmas.Result.{err_from_is_err_and}
use Rattle.unit.specs.Unit.{refreshed}
use Rattle.unit.specs.HandOverLaws.{hand_over_lengths}
use Rattle.unit.proofs.FirstLaws.{first_current, first_anew}
use Rattle.unit.proofs.handing_over.Handing.{by_length, by_read, kept_read, anew_read, refused_stays, refused_hands, done_hands}
use Rattle.unit.proofs.handing_over.hand_over.Goals as goal
use Rattle.unit.proofs.handing_over.hand_over.Goals.{then-not-is_current, else-not-is_current}

pub returns-in_err-file : goal.returns-in_err-file
returns-in_err-file c =
    let a = c.args in
    let p = err_from_is_err_and c.from_residual.result c.from_residual.ensures.1 in
    rw (p.1, p.2) (by_length a.file.now a.tables.now a.generation a.cache.now a.block.now a.copied.now a.age.now _ c.in_err-file.ensures)

pub take-requires : goal.take-requires
take-requires c =
    let lengths = hand_over_lengths _ _ _ _ (sym c.in_ok-file.ensures.1) in
    (lengths.1, lengths.3, lengths.2)

pub returns-in_err-take : goal.returns-in_err-take
returns-in_err-take c =
    let a = c.args in
    let n = c.if-not-is_current.cache in
    let same = first_current c.in_ok-file.file.now a.file.now c.in_ok-file.ensures.0 a.cache.now in
    let read : refreshed a.file.now a.cache.now ≡ n =
    elim c.if-not-is_current.branch [
      | then-not-is_current w ↦ anew_read a.file.now a.cache.now n (sym same ∙ sym c.is_current.ensures ∙ w.if-not-is_current.true) (w.cache-is ∙ w.read_anew.ensures ∙ first_anew c.in_ok-file.file.now a.file.now c.in_ok-file.ensures.0)
      | else-not-is_current w ↦ kept_read a.file.now a.cache.now n (sym same ∙ sym c.is_current.ensures ∙ w.if-not-is_current.false) w.cache-is
    ] in
    let p = err_from_is_err_and c.from_residual-in_err-take.result c.from_residual-in_err-take.ensures.1 in
    rw (p.1, p.2)
    (by_read a.file.now a.tables.now a.generation a.cache.now a.block.now a.copied.now a.age.now n c.in_ok-file.ensures.1 read
    (refused_hands n a.tables.now a.generation a.cache.now a.block.now a.copied.now a.age.now _ _ (refused_stays a.file.now a.cache.now n read) _ c.in_err-take.ensures))

pub returns : goal.returns
returns c =
    let a = c.args in
    let n = c.if-not-is_current.cache in
    let same = first_current c.in_ok-file.file.now a.file.now c.in_ok-file.ensures.0 a.cache.now in
    let read : refreshed a.file.now a.cache.now ≡ n =
    elim c.if-not-is_current.branch [
      | then-not-is_current w ↦ anew_read a.file.now a.cache.now n (sym same ∙ sym c.is_current.ensures ∙ w.if-not-is_current.true) (w.cache-is ∙ w.read_anew.ensures ∙ first_anew c.in_ok-file.file.now a.file.now c.in_ok-file.ensures.0)
      | else-not-is_current w ↦ kept_read a.file.now a.cache.now n (sym same ∙ sym c.is_current.ensures ∙ w.if-not-is_current.false) w.cache-is
    ] in
    by_read a.file.now a.tables.now a.generation a.cache.now a.block.now a.copied.now a.age.now n c.in_ok-file.ensures.1 read
    (done_hands n a.tables.now a.generation a.cache.now a.block.now a.copied.now a.age.now _ _ c.in_ok-take.ensures)
