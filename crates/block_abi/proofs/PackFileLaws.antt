-- What is packed of a file goes by what its read answers: a refused read gives its number, any other the reading that is packed. Assumes nothing.
use Rattle.std.proofs.Common.{ℕ, zero, suc, arith, ◌≡◌, List, length, Option, None, Some, sym, ap, ◌∙◌}
use Rattle.refusals.specs.declared.Refusal.{Refusal}
use Rattle.refusals.specs.Refusals.{number_of, file_refusal}
use Rattle.tables.specs.RefusalLaws.{refusal_not_zero}
use Rattle.lighting.specs.declared.Lighting.{Lighting}
use Rattle.lighting.specs.Lighting.{off}
use Rattle.decoding.specs.Read.{FileRead, file_read_if, file_read}
use Rattle.block.specs.Block.{packing, packs}
use Rattle.block_abi.specs.PackFile.{pack_reading, pack_file_if, pack_file}

abbrev read_as : ℕ → Option Lighting → FileRead
read_as k d = record { number = k; lighting = d }

module _ (f b : List ℕ) where
  read_done : (d : Option Lighting) → read_as 0 d ≡ file_read f → pack_reading d b ≡ pack_file f b
  unfolding pack_file_if file_read_if
  read_done d e = go (file_refusal (length f)) e
    where
      go : (q : ℕ) → read_as 0 d ≡ file_read_if q f → pack_reading d b ≡ pack_file_if q f b
      go zero h = ap (λ (x : FileRead). pack_reading x.lighting b) h
      go (suc q) h = let n : 0 ≡ suc q = ap (λ (x : FileRead). x.number) h in absurd (omega arith)

  pub read_off : (d : Option Lighting) → read_as 0 d ≡ file_read f → d ≡ None → packing 100 b ≡ pack_file f b
  unfolding pack_reading
  read_off d e n = ap (λ (x : Option Lighting). pack_reading x b) (sym n) ∙ read_done d e

  pub read_on : (d : Option Lighting) (l : Lighting) → read_as 0 d ≡ file_read f → d ≡ Some l → packs l b ≡ pack_file f b
  unfolding pack_reading
  read_on d l e s = ap (λ (x : Option Lighting). pack_reading x b) (sym s) ∙ read_done d e

  pub read_refused : (k : Refusal) → read_as (number_of k) off ≡ file_read f → packing (number_of k) b ≡ pack_file f b
  unfolding pack_file_if file_read_if
  read_refused k e = go (file_refusal (length f)) e
    where
      go : (q : ℕ) → read_as (number_of k) off ≡ file_read_if q f → packing (number_of k) b ≡ pack_file_if q f b
      go zero h = absurd (refusal_not_zero k (ap (λ (x : FileRead). x.number) h))
      go (suc q) h = ap (λ (x : FileRead). packing x.number b) h
