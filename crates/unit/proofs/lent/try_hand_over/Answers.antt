-- `lent::try_hand_over` meets its contract: each wrong length is refused as the definition refuses it, and past them the copy takes the block that the read
-- leaves and, at another generation, the tables (LentLaws: refused_handed, handed_seven, handed_taken, handed_same).
use Rattle.std.proofs.Common.{sym, ◌∙◌}
use Rattle.std.proofs.lemmas.Result.{err_from_is_err_and}
use Rattle.unit.specs.HandOverLaws.{hand_over_lengths}
use Rattle.unit.specs.Steps.{lent_refusal_number}
use Rattle.unit.proofs.FirstLaws.{first_refreshed}
use Rattle.unit.proofs.LentLaws.{refused_handed, other_handed, handed_seven, handed_formed, handed_taken, handed_same}
use Rattle.unit.proofs.lent.try_hand_over.Goals as goal

pub returns-in_err-file : goal.returns-in_err-file
unfolding lent_refusal_number
returns-in_err-file c =
    let a = c.args in
    let p = err_from_is_err_and c.from_residual.result c.from_residual.ensures.1 in
    rw (p.1, p.2)
    (refused_handed a.file.now a.tables.now a.generation a.cache.now a.block.now a.copied.now a.age.now _ c.in_err-file.ensures)

pub returns-then-cache-ne-CACHE_WORDS : goal.returns-then-cache-ne-CACHE_WORDS
unfolding lent_refusal_number
returns-then-cache-ne-CACHE_WORDS c =
    let a = c.args in
    other_handed a.cache.now c.if-cache-ne-CACHE_WORDS.true a.file.now a.tables.now a.generation a.block.now a.copied.now a.age.now (sym c.in_ok-file.ensures.1)

pub refresh-requires : goal.refresh-requires
refresh-requires c = c.if-cache-ne-CACHE_WORDS.false

pub returns-in_err-refresh : goal.returns-in_err-refresh
unfolding lent_refusal_number
returns-in_err-refresh c =
    let a = c.args in
    let n = hand_over_lengths _ _ _ _ (sym c.in_ok-file.ensures.1) in
    let r = rw (first_refreshed c.in_ok-file.file.now a.file.now c.in_ok-file.ensures.0 a.cache.now) at c.in_err-refresh.ensures in
    let p = err_from_is_err_and c.from_residual-in_err-refresh.result c.from_residual-in_err-refresh.ensures.1 in
    rw (p.1, p.2)
    (handed_seven a.file.now a.tables.now a.generation a.cache.now a.block.now a.copied.now a.age.now n.0 n.1 n.2 n.3 c.if-cache-ne-CACHE_WORDS.false _ r.0 _ r.1)

pub take_block-requires : goal.take_block-requires
take_block-requires c =
    let a = c.args in
    let n = hand_over_lengths _ _ _ _ (sym c.in_ok-file.ensures.1) in
    let r = rw (first_refreshed c.in_ok-file.file.now a.file.now c.in_ok-file.ensures.0 a.cache.now) at c.in_ok-refresh.ensures in
    let k = c.if-cache-ne-CACHE_WORDS.false in
    (c.refresh.auto.cache ∙ k, n.3, handed_formed a.file.now a.tables.now a.generation a.cache.now a.block.now a.copied.now a.age.now n.0 n.1 n.2 n.3 k _ r.0 r.1)

pub copy-requires : goal.copy-requires
copy-requires c =
    let n = hand_over_lengths _ _ _ _ (sym c.in_ok-file.ensures.1) in
    n.2 ∙ sym n.1

pub returns-then-generation-age : goal.returns-then-generation-age
returns-then-generation-age c =
    let a = c.args in
    let n = hand_over_lengths _ _ _ _ (sym c.in_ok-file.ensures.1) in
    let r = rw (first_refreshed c.in_ok-file.file.now a.file.now c.in_ok-file.ensures.0 a.cache.now) at c.in_ok-refresh.ensures in
    let k = c.if-cache-ne-CACHE_WORDS.false in
    rw (c.take_block.ensures.0, c.copy.ensures)
    (handed_taken a.file.now a.tables.now a.generation a.cache.now a.block.now a.copied.now a.age.now n.0 n.1 n.2 n.3 k _ r.0
    (handed_formed a.file.now a.tables.now a.generation a.cache.now a.block.now a.copied.now a.age.now n.0 n.1 n.2 n.3 k _ r.0 r.1)
    c.if-generation-age.true)

pub returns-else-generation-age : goal.returns-else-generation-age
returns-else-generation-age c =
    let a = c.args in
    let n = hand_over_lengths _ _ _ _ (sym c.in_ok-file.ensures.1) in
    let r = rw (first_refreshed c.in_ok-file.file.now a.file.now c.in_ok-file.ensures.0 a.cache.now) at c.in_ok-refresh.ensures in
    let k = c.if-cache-ne-CACHE_WORDS.false in
    rw c.take_block.ensures.0
    (handed_same a.file.now a.tables.now a.generation a.cache.now a.block.now a.copied.now a.age.now n.0 n.1 n.2 n.3 k _ r.0
    (handed_formed a.file.now a.tables.now a.generation a.cache.now a.block.now a.copied.now a.age.now n.0 n.1 n.2 n.3 k _ r.0 r.1)
    c.if-generation-age.false)
