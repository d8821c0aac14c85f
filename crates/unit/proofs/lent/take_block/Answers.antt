-- `lent::take_block` meets its contract: of a block that shading takes, the count is 0 exactly if it is all zero (LentLaws: off_block, lit_block), and the kept
-- block is all that stands after the kept words.
use Rattle.std.proofs.Common.{◌≡◌, ℕ, length, replicate, length-drop, get_or-drop, sym, ap, ◌∙◌, arith}
use Rattle.unit.specs.CacheWords.{cache_block}
use Rattle.unit.proofs.LentLaws.{block_part, off_block, lit_block}
use Rattle.unit.proofs.lent.take_block.Goals as goal

pub returns-then-cache-eq0 : goal.returns-then-cache-eq0
returns-then-cache-eq0 c =
    let k = c.args.cache.now in
    let b = cache_block k in
    let whole = c.requires.0 in
    let n : length b ≡ 328 = length-drop 140 k ∙ omega (arith, whole) in
    let r = off_block b n c.requires.2 (get_or-drop 140 k 1 0 ∙ c.if-cache-eq0.true) in
    (c.fill.ensures.after (λ y e. e) ∙ ap (λ (m : ℕ). replicate m 0) c.requires.1 ∙ r.0, r.1)

pub returns : goal.returns
returns c =
    let k = c.args.cache.now in
    let b = cache_block k in
    let whole = c.requires.0 in
    let n : length b ≡ 328 = length-drop 140 k ∙ omega (arith, whole) in
    (c.copy.ensures ∙ block_part k whole, lit_block b n (λ e. c.if-cache-eq0.false (sym (get_or-drop 140 k 1 0) ∙ e)))
