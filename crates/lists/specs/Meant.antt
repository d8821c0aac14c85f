-- Serves the proof of demand 3 over lent caches only, and nobody has to trust it: an implementation J whose caches mean caches of another, I, so
-- that every call of J is the call of I on the cache that is meant. Statements only.
use Rattle.std.specs.Prelude.{ℕ, ◌≡◌, List}
use Rattle.unit.specs.Meaning.{cached_as, handed_as}
use Rattle.lists.specs.States.{State, unit_state, state, Implementation}

-- unit and copy with the cache that is meant
abbrev pub state_as : {C D : Type 0} → (D → C) → State D → State C
state_as means s =
    state (unit_state s.unit.file s.unit.tables s.unit.generation (means s.unit.cache)) s.copy

-- It is asked of good caches only: the empty one is good, and so is what a call leaves of a good one.
pub record Meant {C D : Type 0} (I : Implementation C) (J : Implementation D) (means : D → C) (Good : D → Type 0) : Type 0 where
  pub writes : (f t : List ℕ) (g r v : ℕ) → J.write f t g r v ≡ I.write f t g r v
  pub restores : (t : List ℕ) (g : ℕ) (saved : List ℕ) → J.restore t g saved ≡ I.restore t g saved
  pub shades : (b t q a : List ℕ) → J.block_shading b t q a ≡ I.block_shading b t q a
  pub empty : means J.empty_cache ≡ I.empty_cache
  pub empty_good : Good J.empty_cache
  pub reads : (f : List ℕ) (c : D) → Good c → cached_as means (J.cached_read f c) ≡ I.cached_read f (means c)
  pub read_good : (f : List ℕ) (c : D) → Good c → Good (J.cached_read f c).cache
  pub hands_over : (f t : List ℕ) (g : ℕ) (c : D) (b ct : List ℕ) (cg : ℕ) → Good c → handed_as means (J.hand_over f t g c b ct cg) ≡ I.hand_over f t g (means c) b ct cg
  pub handed_good : (f t : List ℕ) (g : ℕ) (c : D) (b ct : List ℕ) (cg : ℕ) → Good c → Good (J.hand_over f t g c b ct cg).cache
