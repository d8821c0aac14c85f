-- `head_words::put_head` meets its contract: its rows, one after another, are the definition's. A count and units in range fit their words.
use native.Mathlib.Omega.{arith}
use Rattle.block.proofs.PackedLaws.{range_bump, range_shadow, range_count}
use Rattle.packing.proofs.head_words.Head.{head_put}
use Rattle.packing.proofs.head_words.put_head.Goals as goal

pub overflow_cast-l : goal.overflow_cast-l
overflow_cast-l c = omega (arith, range_count _ c.requires)

pub bump_word-requires : goal.bump_word-requires
bump_word-requires c = range_bump _ c.requires

pub shadow_word-requires : goal.shadow_word-requires
shadow_word-requires c = range_shadow _ c.requires

pub returns : goal.returns
returns c = head_put _ _ _ _ _ _ _ _ _ _
    c.bump_word.ensures
    c.shadow_word.ensures
    c.flag.ensures.0
    c.flag-2.ensures.0
    c.put_row.ensures
    c.put_row-2.ensures
    c.put_lookups.ensures
    c.put_vector.ensures
