-- `capture_lines::print_lit` meets its contract: the eight k that shading leaves in the answer are bytes' numbers, and their line is put.
use Rattle.std.proofs.Common.{ℕ}
use Rattle.sources.proofs.WordsLaws.{word_values}
use Rattle.block.specs.Block.{words, block_lighting}
use Rattle.block_shading.specs.FragmentsLaws.{eights_of_one}
use Rattle.capture_lines.specs.Lines.{shown_line}
use Rattle.capture_lines.specs.ChannelLaws.{eight_bytes}
use Rattle.capture_lines.proofs.print_lit.Goals as goal

pub put_line-requires-clause-bytes : goal.put_line-requires-clause-bytes
put_line-requires-clause-bytes c =
    let l = block_lighting (words c.args.block.marked.words.now) in
    let t = c.args.tables.now in
    let q = c.args.fragment.now in
    let eight = rw (word_values c.args.block.marked.words.now, word_values t, c.from_ref.ensures.value, eights_of_one l t (λ (n : ℕ). n) q, word_values q) at c.shade_each.ensures in
    rw eight (eight_bytes l t q)

pub returns-clause-text : goal.returns-clause-text
unfolding shown_line
returns-clause-text c =
    let l = block_lighting (words c.args.block.marked.words.now) in
    let t = c.args.tables.now in
    let q = c.args.fragment.now in
    let eight = rw (word_values c.args.block.marked.words.now, word_values t, c.from_ref.ensures.value, eights_of_one l t (λ (n : ℕ). n) q, word_values q) at c.shade_each.ensures in
    rw (← eight) c.put_line.ensures.text
