-- `lanes::Lanes::with_rows` meets its contract. The loop's invariant: the lanes are clear exactly if they were before and each word of the rows so far passes.
use Rattle.std.proofs.Common.{◌≡◌, ◌+◌, ◌*◌, ◌≤◌, ◌<◌, ℕ, Bool, ◌&&◌, map, length, arith, sym, ap, ◌∙◌}
use Rattle.std.proofs.Math.Bool.{and-true}
use Rattle.std.proofs.Math.Nat.{mul-le-mul_right}
use Rattle.lighting.specs.Forms.{every}
use Rattle.block.specs.Block.{words}
use Rattle.block_check.specs.Steps.{clear}
use Rattle.block_check.specs.OrLaws.{then_more}
use Rattle.block_check.proofs.Parts.{every_same, chunk_word}
use Rattle.block_check.proofs.lanes.Lanes.with_rows.Goals as goal

-- a row is no longer than the part
row_fits : (n size limit : ℕ) → 4 ≤ n → n * size < limit → 4 * size < limit
row_fits n size limit h fits = omega (arith, mul-le-mul_right size h)

pub as_chunks-requires : goal.as_chunks-requires
as_chunks-requires g c =
    let fits = c.well_formed.1.0.1 in
    let four : 4 ≤ length c.args.part.now = omega (arith, c.requires.0, c.requires.1) in
    (row_fits (length c.args.part.now) _ _ four fits, omega arith)

pub loop-row-init : goal.loop-row-init
unfolding every
loop-row-init g c = sym (and-true (clear c.args.self))

pub loop-row-preserved : goal.loop-row-preserved
loop-row-preserved g c =
    let l = c.loop-row in
    let value = g.W.Word.value in
    let passes = g.T.WordTest.passes in
    let part = words (map value c.args.part.now) in
    let row = words (map value c.row-item.result) in
    let same : (k : ℕ) → k < 4 → row k ≡ part (4 * l.row-index + k) =
    λ k m. ap (λ r. words (map value r) k) c.row-item.is ∙ chunk_word value 4 _ c.args.part.now c.as_chunks.result.0.now l.row-index k _ c.as_chunks.ensures.front c.loop-row-test.true m in
    let e : 4 * (l.row-index + 1) ≡ 4 * l.row-index + 4 = omega arith in
    rw e
    (then_more (λ k. passes (part k)) (4 * l.row-index) 4 (clear c.args.self) (clear l.lanes) _ l.invariant
    (c.with_row-lanes.ensures ∙ ap (λ (b : Bool). clear l.lanes && b) (every_same 4 (λ k. passes (row k)) (λ k. passes (part (4 * l.row-index + k))) (λ k m. ap passes (same k m)))))

pub returns : goal.returns
returns g c =
    let e : 4 * c.loop-row.row-index ≡ length c.args.part.now = omega (arith, c.as_chunks.ensures.front_len, c.requires.1) in
    rw e at c.loop-row.invariant
