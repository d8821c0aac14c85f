-- The same with caches that are words lent by the caller. InWordsLaws proves demand 3 of it. Definitions only.
use Rattle.std.specs.Prelude.{ℕ, List}
use Rattle.tables.specs.Tables.{write, restore}
use Rattle.unit.specs.CacheWords.{empty_words, cached_read_words, hand_over_words}
use Rattle.block_shading.specs.BlockShading.{block_shading}
use Rattle.lists.specs.States.{Implementation}

abbrev pub in_words : Implementation (List ℕ)
in_words =
    record {
      empty_cache = empty_words;
      write = write;
      restore = restore;
      cached_read = cached_read_words;
      hand_over = hand_over_words;
      block_shading = block_shading;
    }
