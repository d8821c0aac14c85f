-- Serves only the proofs that demand 3 refuses them: wrong implementations, each ours but for one call. Four are those of which document 01 says
-- that they fail by demand 3; three are wrong in less, a shader that paints one colour only where the lighting is on and two hand-overs that leave
-- only the copy's tables. Definitions only.
use Rattle.std.specs.Prelude.{ℕ, List, cond, eqb}
use Rattle.tables.specs.Tables.{Wrote, write, wrote, restore}
use Rattle.unit.specs.declared.Cache.{Cache}
use Rattle.unit.specs.Unit.{fresh_cache, cached_read, Handed, handed, hand_over}
use Rattle.shading.specs.Shade.{Shaded, shaded}
use Rattle.block_shading.specs.BlockShading.{block_shading}
use Rattle.lists.specs.States.{Implementation}

-- ours but for a write, a hand-over and block shading
abbrev with_calls : (List ℕ → List ℕ → ℕ → ℕ → ℕ → Wrote)
    → (List ℕ → List ℕ → ℕ → Cache → List ℕ → List ℕ → ℕ → Handed Cache)
    → (List ℕ → List ℕ → List ℕ → List ℕ → Shaded)
    → Implementation Cache
with_calls writes hands_over shades =
    record {
      empty_cache = fresh_cache;
      write = writes;
      restore = restore;
      cached_read = cached_read;
      hand_over = hands_over;
      block_shading = shades;
    }

-- "A unit that refuses every write"
abbrev pub refuses_writes : Implementation Cache
refuses_writes = with_calls (λ f t g r v. wrote 3 f t g) hand_over block_shading

-- "a shader painting one colour"
abbrev pub paints_one : List ℕ → Implementation Cache
paints_one colours = with_calls write hand_over (λ b t q a. shaded 0 colours)

-- the same of one that is right about refusals and off
unfoldable pub painted : List ℕ → Shaded → Shaded
painted colours s = cond (eqb s.number 0) (shaded 0 colours) s

abbrev pub paints_lit : List ℕ → Implementation Cache
paints_lit colours = with_calls write hand_over (λ b t q a. painted colours (block_shading b t q a))

-- "a hand-over that copies nothing": it reads and answers as ours
unfoldable pub copying_nothing : List ℕ → List ℕ → ℕ → Cache → List ℕ → List ℕ → ℕ → Handed Cache
copying_nothing f t g c b ct cg =
    let w = hand_over f t g c b ct cg in
    handed w.number w.cache b ct cg

abbrev pub copies_nothing : Implementation Cache
copies_nothing = with_calls write copying_nothing block_shading

-- a hand-over that copies no tables: the copy takes the block and the generation
unfoldable pub copying_no_tables : List ℕ → List ℕ → ℕ → Cache → List ℕ → List ℕ → ℕ → Handed Cache
copying_no_tables f t g c b ct cg =
    let w = hand_over f t g c b ct cg in
    handed w.number w.cache w.block ct w.generation

abbrev pub copies_no_tables : Implementation Cache
copies_no_tables = with_calls write copying_no_tables block_shading

-- "one that copies only the first time": while the copy's generation is 0
unfoldable pub copying_once : List ℕ → List ℕ → ℕ → Cache → List ℕ → List ℕ → ℕ → Handed Cache
copying_once f t g c b ct cg = cond (eqb cg 0) (hand_over f t g c b ct cg) (copying_nothing f t g c b ct cg)

abbrev pub copies_once : Implementation Cache
copies_once = with_calls write copying_once block_shading

-- one that copies the tables only the first time, while the copy's generation is 0: the block and the generation it takes every time
unfoldable pub copying_tables_once : List ℕ → List ℕ → ℕ → Cache → List ℕ → List ℕ → ℕ → Handed Cache
copying_tables_once f t g c b ct cg = cond (eqb cg 0) (hand_over f t g c b ct cg) (copying_no_tables f t g c b ct cg)

abbrev pub copies_tables_once : Implementation Cache
copies_tables_once = with_calls write copying_tables_once block_shading
