-- For tests alone: a composed call goes on where the read answers, with what the read gives, and else gives the refusal's number. Assumes nothing.
use Rattle.std.specs.Prelude.{ℕ, zero, suc, ◌≡◌, List, length, Option, Result, Ok, Err}
use Rattle.std.proofs.Common.{refl, sym, ap, ◌∙◌, ne_eqb}
use Rattle.refusals.specs.declared.Refusal.{Refusal}
use Rattle.refusals.specs.Refusals.{number_of, fragment_refusal}
use Rattle.tables.specs.RefusalLaws.{refusal_not_zero}
use Rattle.lighting.specs.declared.Lighting.{Lighting}
use Rattle.decoding.specs.Read.{FileRead, file_read, file_read_of}
use Rattle.block.specs.Block.{packing, BlockAnswer, block_read, answer_of}
use Rattle.unit.specs.declared.Cache.{Cache}
use Rattle.unit.specs.Unit.{Cached, cached, fresh_cache, cached_read}
use Rattle.shading.specs.Shade.{shaded}
use Rattle.structs_abi.specs.Composed.{shades_reading, shades_if, shades_of, shades_read, shade_file, shade_reading, packs_if, cached_reads}

module _ (t q a : List ℕ) where
  -- a fragment of another length
  pub short : (r : Result (Option Lighting) Refusal) → (length q ≡ 23 → ⊥) → shaded 9 a ≡ shades_read r t q a
  unfolding shades_of fragment_refusal
  short r n = rw (ne_eqb (length q) 23 n) refl

  -- else a read that is done, and one that is refused
  pub done : (d : Option Lighting) → length q ≡ 23 → shades_reading d t q a ≡ shades_read (Ok d) t q a
  unfolding shades_of shades_if fragment_refusal
  done d n = rw n refl

  numbered : (m : ℕ) (d : Option Lighting) → length q ≡ 23 → (m ≡ 0 → ⊥) → shaded m a ≡ shades_of (fragment_refusal (length q)) m d t q a
  unfolding shades_of shades_if fragment_refusal
  numbered zero d n h = absurd (h refl)
  numbered (suc m) d n h = rw n refl

  pub refused : (k : Refusal) → length q ≡ 23 → shaded (number_of k) a ≡ shades_read (Err k) t q a
  refused k n = numbered (number_of k) _ n (refusal_not_zero k)

  -- `read` of a file
  pub of_file : (r : Result (Option Lighting) Refusal) (f : List ℕ) → file_read_of r ≡ file_read f → shades_read r t q a ≡ shade_file f t q a
  of_file r f e = ap (λ (x : FileRead). shades_of (fragment_refusal (length q)) x.number x.lighting t q a) e

  -- `read_block` of a block
  pub of_block : (r : Result (Option Lighting) Refusal) (b : List ℕ) → answer_of r ≡ block_read b → shades_read r t q a ≡ shade_reading b t q a
  of_block (Ok d) b e = ap (λ (x : BlockAnswer). shades_of (fragment_refusal (length q)) x.number x.reading t q a) e
  of_block (Err k) b e = ap (λ (x : BlockAnswer). shades_of (fragment_refusal (length q)) x.number x.reading t q a) e

refused_number : (b : List ℕ) (m : ℕ) (l : Option Lighting) → (m ≡ 0 → ⊥) → packing m b ≡ packs_if m l b
unfolding packs_if
refused_number b zero l h = absurd (h refl)
refused_number b (suc m) l h = refl

-- two cached reads, of which the first answered j and left the cache d, and the second k and e
module _ (f o b : List ℕ) (c d e : Cache) (j k : ℕ) (ec : c ≡ fresh_cache) (ed : cached j d ≡ cached_read f c) (ee : cached k e ≡ cached_read o d) where
  by_second : packs_if k e.decoded b ≡ cached_reads f o b
  by_second =
      ap (λ (x : Cached Cache). packs_if x.number x.cache.decoded b)
      (ee ∙ ap (cached_read o) (ap (λ (x : Cached Cache). x.cache) (ed ∙ ap (cached_read f) ec)))

  pub packs_done : k ≡ 0 → packs_if 0 e.decoded b ≡ cached_reads f o b
  packs_done z = ap (λ (n : ℕ). packs_if n e.decoded b) (sym z) ∙ by_second

  pub packs_refused : (q : Refusal) → k ≡ number_of q → packing (number_of q) b ≡ cached_reads f o b
  packs_refused q z =
      refused_number b (number_of q) e.decoded (refusal_not_zero q) ∙ ap (λ (n : ℕ). packs_if n e.decoded b) (sym z) ∙ by_second
