-- A reading looks at none of the words after the first 474, so that a read of a file's registers leaves the cache that a read of the file leaves. Assumes nothing.
use Rattle.std.specs.Prelude.{ℕ, ◌≡◌, List, take}
use Rattle.std.proofs.Common.{refl}
use Rattle.decoding.specs.Read.{read}
use Rattle.decoding.proofs.FileLaws.{kept_first, read_first}
use Rattle.unit.specs.declared.Cache.{Cache}
use Rattle.unit.specs.Unit.{current, read_anew}
use Rattle.unit.specs.CacheWords.{current_words, anew_words, refreshed_words}

module _ (w f : List ℕ) (e : w ≡ take 474 f) where
  pub first_read : read w ≡ read f
  first_read = rw e (read_first f)

  pub first_current : (c : Cache) → current w c ≡ current f c
  unfolding current
  first_current c = rw (e, kept_first f) refl

  pub first_anew : read_anew w ≡ read_anew f
  unfolding read_anew
  first_anew = rw (e, kept_first f, read_first f) refl

  pub first_refreshed : (c : List ℕ) → refreshed_words w c ≡ refreshed_words f c
  unfolding refreshed_words current_words anew_words
  first_refreshed c = rw (e, kept_first f, read_first f) refl
