-- `lent::refresh` meets its contract: kept words that are the file's leave the cache, whose block is looked at; any others are read anew, and such a block is
-- always taken.
use Rattle.std.proofs.Common.{rules, ◌≤◌, length, refl, sym}
use Rattle.unit.proofs.LentLaws.{block_part, anew_formed, kept_refreshed, anew_refreshed}
use Rattle.unit.proofs.lent.refresh.Goals as goal

pub returns-then-not-is_current : goal.returns-then-not-is_current
returns-then-not-is_current c =
    let f = c.args.file.now in
    let long : 474 ≤ length f = search rules in
    let e = anew_refreshed f long c.args.cache.now (sym c.if-not-is_current.ensures) in
    rw (e, anew_formed f long c.args.cache.now) (c.read_anew.ensures, refl)

pub returns-then-not-is_formed : goal.returns-then-not-is_formed
returns-then-not-is_formed c =
    let k = c.args.cache.now in
    let e = kept_refreshed c.args.file.now (search rules) k (sym c.if-not-is_current.ensures) in
    let block = rw c.unwrap.ensures at c.as_array.ensures.cases in
    rw (e, ← block_part k c.requires, ← block.same, ← c.if-not-is_formed.ensures) (refl, refl)

pub returns : goal.returns
returns c =
    let k = c.args.cache.now in
    let e = kept_refreshed c.args.file.now (search rules) k (sym c.if-not-is_current.ensures) in
    let block = rw c.unwrap.ensures at c.as_array.ensures.cases in
    rw (e, ← block_part k c.requires, ← block.same, ← c.if-not-is_formed.ensures) (refl, refl)
