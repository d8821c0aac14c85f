-- `lent::try_cached_read` meets its contract: each wrong length is refused as the definition refuses it, and past them the block is the one that the read
-- leaves (LentLaws: refused_cached, cached_seven, cached_done).
use Rattle.std.proofs.Common.{sym, ◌∙◌}
use Rattle.std.proofs.lemmas.Result.{err_from_is_err_and}
use Rattle.unit.specs.HandOverLaws.{read_lengths}
use Rattle.unit.specs.Steps.{lent_refusal_number}
use Rattle.unit.proofs.FirstLaws.{first_refreshed}
use Rattle.unit.proofs.LentLaws.{refused_cached, other_cached, cached_seven, cached_formed, cached_done}
use Rattle.unit.proofs.lent.try_cached_read.Goals as goal

pub returns-in_err-file : goal.returns-in_err-file
unfolding lent_refusal_number
returns-in_err-file c =
    let a = c.args in
    let p = err_from_is_err_and c.from_residual.result c.from_residual.ensures.1 in
    rw (p.1, p.2) (refused_cached a.file.now a.block.now _ c.in_err-file.ensures a.cache.now)

pub returns-then-cache-ne-CACHE_WORDS : goal.returns-then-cache-ne-CACHE_WORDS
unfolding lent_refusal_number
returns-then-cache-ne-CACHE_WORDS c =
    let a = c.args in
    other_cached a.cache.now c.if-cache-ne-CACHE_WORDS.true a.file.now a.block.now (sym c.in_ok-file.ensures.1)

pub refresh-requires : goal.refresh-requires
refresh-requires c = c.if-cache-ne-CACHE_WORDS.false

pub returns-in_err-refresh : goal.returns-in_err-refresh
unfolding lent_refusal_number
returns-in_err-refresh c =
    let a = c.args in
    let n = read_lengths _ _ (sym c.in_ok-file.ensures.1) in
    let r = rw (first_refreshed c.in_ok-file.file.now a.file.now c.in_ok-file.ensures.0 a.cache.now) at c.in_err-refresh.ensures in
    let p = err_from_is_err_and c.from_residual-in_err-refresh.result c.from_residual-in_err-refresh.ensures.1 in
    rw (p.1, p.2) (cached_seven a.file.now a.cache.now a.block.now n.0 n.1 c.if-cache-ne-CACHE_WORDS.false _ r.0 _ r.1)

pub take_block-requires : goal.take_block-requires
take_block-requires c =
    let a = c.args in
    let n = read_lengths _ _ (sym c.in_ok-file.ensures.1) in
    let r = rw (first_refreshed c.in_ok-file.file.now a.file.now c.in_ok-file.ensures.0 a.cache.now) at c.in_ok-refresh.ensures in
    (c.refresh.auto.cache ∙ c.if-cache-ne-CACHE_WORDS.false, n.1, cached_formed a.file.now a.cache.now a.block.now n.0 n.1 c.if-cache-ne-CACHE_WORDS.false _ r.0 r.1)

pub returns : goal.returns
returns c =
    let a = c.args in
    let n = read_lengths _ _ (sym c.in_ok-file.ensures.1) in
    let r = rw (first_refreshed c.in_ok-file.file.now a.file.now c.in_ok-file.ensures.0 a.cache.now) at c.in_ok-refresh.ensures in
    let k = c.if-cache-ne-CACHE_WORDS.false in
    rw (c.take_block.ensures.0, c.take_block.ensures.1)
    (cached_done a.file.now a.cache.now a.block.now n.0 n.1 k _ r.0 (cached_formed a.file.now a.cache.now a.block.now n.0 n.1 k _ r.0 r.1))
