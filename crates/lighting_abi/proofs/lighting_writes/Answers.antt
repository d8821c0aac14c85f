-- `lighting_abi::lighting_writes` meets its contract: each wrong length is refused as the definition refuses it, and past them the list is `write_each`'s. Assumes
-- nothing.
use borrow.Author.Tests.{lt-leb, le-leb, eq-eqb, ne_eqb}
use Rattle.refusals.specs.Refusals.{file_refusal, tables_refusal}
use Rattle.lighting_abi.specs.Boundary.{pairs_refusal, write_list_if}
use Rattle.lighting_abi.proofs.lighting_writes.Goals as goal

pub returns-then-file-lt474 : goal.returns-then-file-lt474
unfolding write_list_if file_refusal
returns-then-file-lt474 c = simp (c.from.ensures, lt-leb 474 _ c.if-file-lt474.true)

pub returns-then-tables-ne12288 : goal.returns-then-tables-ne12288
unfolding write_list_if file_refusal tables_refusal
returns-then-tables-ne12288 c = simp (c.from-then-tables-ne12288.ensures, le-leb 474 _ c.if-file-lt474.false, ne_eqb _ 12288 c.if-tables-ne12288.true)

pub returns-then-pairs-ne0 : goal.returns-then-pairs-ne0
unfolding write_list_if file_refusal tables_refusal pairs_refusal
returns-then-pairs-ne0 c = simp (le-leb 474 _ c.if-file-lt474.false, eq-eqb _ 12288 c.if-tables-ne12288.false, ne_eqb _ 0 c.if-pairs-ne0.true)

pub returns : goal.returns
unfolding write_list_if file_refusal tables_refusal pairs_refusal
returns c =
    simp (le-leb 474 _ c.if-file-lt474.false, eq-eqb _ 12288 c.if-tables-ne12288.false, eq-eqb _ 0 c.if-pairs-ne0.false, c.outcome_number.ensures) c.write_each-written.ensures
