-- Our implementation: its functions are the definitions that the contracts of `write`, `restore`, `cached_read`, `hand_over` and `shade_block` cite.
-- Demand3Laws proves demand 3 of it. Definitions only.
use Rattle.tables.specs.Tables.{write, restore}
use Rattle.unit.specs.declared.Cache.{Cache}
use Rattle.unit.specs.Unit.{fresh_cache, cached_read, hand_over}
use Rattle.block_shading.specs.BlockShading.{block_shading}
use Rattle.lists.specs.States.{Implementation}

abbrev pub ours : Implementation Cache
ours =
    record {
      empty_cache = fresh_cache;
      write = write;
      restore = restore;
      cached_read = cached_read;
      hand_over = hand_over;
      block_shading = block_shading;
    }
