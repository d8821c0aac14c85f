-- `lighting_abi::lighting_shade_block` meets its contract: each wrong length is refused as block shading of the words refuses it, and past the lengths what the check
-- finds of the block's words leads to its answer.
use Rattle.std.proofs.Common.{ℕ, ◌≡◌, List, length, map, arith, sym, ap, subst, ◌∙◌}
use Rattle.std.specs.Array.{IsWholeChunk}
use Rattle.std.proofs.lemmas.List.{length-map}
use Rattle.sources.specs.Sources.{word_of, words_of}
use Rattle.block.specs.Steps.{block_form}
use Rattle.block.specs.declared.BlockForm.TheVariants.{Off, NotWellFormed}
use Rattle.block_reading.specs.FormLaws.{Lit, found_lit, found_off, found_bad}
use Rattle.shading.specs.Shade.{shaded}
use Rattle.lighting_abi.specs.Boundary.{bytes_of}
use Rattle.lighting_abi.specs.BytesLaws.{words_length, bad_block, bad_tables, bad_fragment, short_answer, lit_bytes, off_bytes, bad_bytes}
use Rattle.lighting_abi.proofs.lighting_shade_block.Goals as goal

pub returns-then-block-ne1312 : goal.returns-then-block-ne1312
returns-then-block-ne1312 c = rw c.from.ensures (bad_block _ _ _ _ c.if-block-ne1312.true)

pub returns-then-tables-ne49152 : goal.returns-then-tables-ne49152
returns-then-tables-ne49152 c = rw c.from-then-tables-ne49152.ensures (bad_tables _ _ _ _ c.if-block-ne1312.false c.if-tables-ne49152.true)

pub returns-then-fragment-ne92 : goal.returns-then-fragment-ne92
returns-then-fragment-ne92 c = rw c.from-then-fragment-ne92.ensures (bad_fragment _ _ _ _ c.if-block-ne1312.false c.if-tables-ne49152.false c.if-fragment-ne92.true)

pub returns-then-answer-ne32 : goal.returns-then-answer-ne32
returns-then-answer-ne32 c = rw c.from-then-answer-ne32.ensures (short_answer _ _ _ _ c.if-block-ne1312.false c.if-tables-ne49152.false c.if-fragment-ne92.false c.if-answer-ne32.true)

-- as many as the words of the bytes
as_many : (ws : List (List ℕ)) (b : List ℕ) → map word_of ws ≡ words_of b → length ws ≡ length (words_of b)
as_many ws b e = sym (length-map ws word_of) ∙ ap length e

pub unwrap-block-requires : goal.unwrap-block-requires
unwrap-block-requires c =
    c.try_from.ensures.0 (as_many _ c.args.block.now c.words_of.ensures ∙ words_length c.args.block.now 328 (omega arith) c.if-block-ne1312.false)

pub unwrap-tables-requires : goal.unwrap-tables-requires
unwrap-tables-requires c =
    c.try_from-2.ensures.0 (as_many _ c.args.tables.now c.words_of-2.ensures ∙ words_length c.args.tables.now 12288 (omega arith) c.if-tables-ne49152.false)

pub unwrap-fragment-requires : goal.unwrap-fragment-requires
unwrap-fragment-requires c =
    c.try_from-3.ensures.0 (as_many _ c.args.fragment.now c.words_of-3.ensures ∙ words_length c.args.fragment.now 23 (omega arith) c.if-fragment-ne92.false)

-- the words that were taken are those of the bytes
taken : (ws xs : List (List ℕ)) (n : ℕ) (b : List ℕ) → IsWholeChunk ws xs n → map word_of ws ≡ words_of b → map word_of xs ≡ words_of b
taken ws xs n b whole e = ap (map word_of) whole.same ∙ e

pub returns-in-Ok-Some : goal.returns-in-Ok-Some
returns-in-Ok-Some c =
    let b = c.args.block.now in
    let t = c.args.tables.now in
    let q = c.args.fragment.now in
    let e = taken _ c.unwrap-block.result.now _ b (rw c.unwrap-block.ensures at c.try_from.ensures.1) c.words_of.ensures in
    let f = taken _ c.unwrap-tables.result.now _ t (rw c.unwrap-tables.ensures at c.try_from-2.ensures.1) c.words_of-2.ensures in
    let g = taken _ c.unwrap-fragment.result.now _ q (rw c.unwrap-fragment.ensures at c.try_from-3.ensures.1) c.words_of-3.ensures in
    let found = found_lit _ _ _ _ _ c.in-Ok-Some.ensures c.in-Ok-Some.field-0-is in
    let lit : Lit (words_of b) = subst Lit e found.1 in
    let eight = rw (found.0, e, f, g) at c.shade_alone-channels.ensures in
    ap (shaded 0) (c.put.ensures ∙ ap bytes_of eight)
    ∙ lit_bytes b t q c.args.answer.now c.if-block-ne1312.false c.if-tables-ne49152.false c.if-fragment-ne92.false c.if-answer-ne32.false lit

pub returns-in-Ok-None : goal.returns-in-Ok-None
returns-in-Ok-None c =
    let b = c.args.block.now in
    let e = taken _ c.unwrap-block.result.now _ b (rw c.unwrap-block.ensures at c.try_from.ensures.1) c.words_of.ensures in
    let off : block_form (words_of b) ≡ Off = ap block_form (sym e) ∙ found_off _ _ _ _ c.in-Ok-None.ensures c.in-Ok-None.field-0-is in
    rw c.switch_number.ensures (off_bytes b c.args.tables.now c.args.fragment.now c.args.answer.now c.if-block-ne1312.false c.if-tables-ne49152.false c.if-fragment-ne92.false c.if-answer-ne32.false off)

pub returns-in-Err : goal.returns-in-Err
returns-in-Err c =
    let b = c.args.block.now in
    let e = taken _ c.unwrap-block.result.now _ b (rw c.unwrap-block.ensures at c.try_from.ensures.1) c.words_of.ensures in
    let found = found_bad _ _ _ _ c.in-Err.ensures in
    let bad : block_form (words_of b) ≡ NotWellFormed = ap block_form (sym e) ∙ found.1 in
    let k = rw found.0 at c.switch_number-in-Err.ensures in
    rw k (bad_bytes b c.args.tables.now c.args.fragment.now c.args.answer.now c.if-block-ne1312.false c.if-tables-ne49152.false c.if-fragment-ne92.false c.if-answer-ne32.false bad)
