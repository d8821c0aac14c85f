-- What the form of a block says of its words, and how a block of that form is answered and read. A form is decided by four tests: of length, of all zero, of well
-- formed and of free of NaN. Assumes nothing.
use Rattle.std.specs.Prelude.{ℕ, ◌≡◌, Bool, true, false, cond, eqb, List, length, Option, None, Some, is_some, Ok, Err}
use Rattle.std.proofs.Common.{arith, refl, sym, ap, subst, ◌∙◌, true≢false}
use borrow.Author.Tests.{eq-eqb, eqb-true}
use Rattle.refusals.specs.declared.Refusal.{Refusal}
use Rattle.refusals.specs.declared.Refusal.TheVariants.{NotWellFormed as BadBlock}
use Rattle.block.specs.declared.BlockForm.{BlockForm}
use Rattle.block.specs.declared.BlockForm.TheVariants.{Off, NotWellFormed, NanFree, WithNan}
use Rattle.lighting.specs.Lighting.{off, on}
use Rattle.block.specs.Block.{words, all_zero, well_formed, block_lighting, block_reading, words_refusal}
use Rattle.block.specs.Steps.{nan_free, form_of, block_form}
use Rattle.block.specs.TestLaws.{never}
use Rattle.block_reading.specs.Steps.{Found}

-- the form by the tests: of the right length, all zero, well formed, free of NaN
abbrev pub form_by : Bool → Bool → Bool → Bool → BlockForm
form_by sized zero formed free = cond sized (cond zero Off (cond formed (cond free NanFree WithNan) NotWellFormed)) NotWellFormed

-- what is known of a block that is lit
pub record Lit (b : List ℕ) : Type 0 where
  pub sized : length b ≡ 328
  pub not_off : all_zero (words b) ≡ false
  pub formed : well_formed (words b) ≡ true
  pub passes : words_refusal (words b) ≡ 0
  pub reads : block_reading (words b) ≡ on (block_lighting (words b))

module _ (b : List ℕ) where
  -- what each form says
  abbrev Says : BlockForm → Type 0
  Says Off = (words_refusal (words b) ≡ 0) × (block_reading (words b) ≡ off)
  Says NotWellFormed = length b ≡ 328 → words_refusal (words b) ≡ 7
  Says NanFree = Lit b × (nan_free (words b) ≡ true)
  Says WithNan = Lit b

  says : Says (block_form b)
  unfolding block_form form_of words_refusal block_reading
  says = go (eqb (length b) 328) (all_zero (words b)) (well_formed (words b)) (nan_free (words b)) refl refl refl refl
    where
      lit : eqb (length b) 328 ≡ true → all_zero (words b) ≡ false → well_formed (words b) ≡ true → Lit b
      lit p q r = record { sized = eqb-true (length b) 328 p; not_off = q; formed = r; passes = rw (q, r) refl; reads = rw q refl }

      go : (x z g n : Bool) → eqb (length b) 328 ≡ x → all_zero (words b) ≡ z → well_formed (words b) ≡ g → nan_free (words b) ≡ n → Says (form_by x z g n)
      go true true g n p q r s = (rw q refl, rw q refl)
      go true false true true p q r s = (lit p q r, s)
      go true false true false p q r s = lit p q r
      go true false false n p q r s = λ e. rw (q, r) refl
      go false z g n p q r s = λ e. absurd (true≢false (sym (eq-eqb (length b) 328 e) ∙ p))

  said : (f : BlockForm) → block_form b ≡ f → Says f
  said f e = subst Says e says

  -- off
  pub off_passes : block_form b ≡ Off → words_refusal (words b) ≡ 0
  off_passes e = (said Off e).0

  pub off_reads : block_form b ≡ Off → block_reading (words b) ≡ off
  off_reads e = (said Off e).1

  -- not well formed, though of the right length
  pub bad_refused : length b ≡ 328 → block_form b ≡ NotWellFormed → words_refusal (words b) ≡ 7
  bad_refused n e = said NotWellFormed e n

  -- lit, with or without a NaN
  pub lit_by_form : (plain : Bool) → block_form b ≡ cond plain NanFree WithNan → Lit b
  lit_by_form true e = (said NanFree e).0
  lit_by_form false e = said WithNan e

  -- lit, for whoever knows not the form but that 328 words pass and read as a lighting
  pub lit_by_reading : length b ≡ 328 → words_refusal (words b) ≡ 0 → block_reading (words b) ≡ on (block_lighting (words b)) → Lit b
  unfolding words_refusal block_reading
  lit_by_reading n p r = go (all_zero (words b)) (well_formed (words b)) refl refl
    where
      go : (z g : Bool) → all_zero (words b) ≡ z → well_formed (words b) ≡ g → Lit b
      go true g q s = absurd (true≢false (sym (ap is_some (rw q at r))))
      go false true q s = record { sized = n; not_off = q; formed = s; passes = p; reads = r }
      go false false q s = absurd (let z : 7 ≡ 0 = rw (q, s) at p in omega arith)

  pub formed_by_form : (plain : Bool) → block_form b ≡ cond plain NanFree WithNan → well_formed (words b) ≡ true
  formed_by_form plain e = (lit_by_form plain e).formed

  pub free_by_form : block_form b ≡ NanFree → nan_free (words b) ≡ true
  free_by_form e = (said NanFree e).1

  pub free_by_mark : (plain : Bool) → block_form b ≡ cond plain NanFree WithNan → plain ≡ true → nan_free (words b) ≡ true
  free_by_mark true e k = free_by_form e
  free_by_mark false e k = never k

-- what was found says what the form is, and of a lit block that its words are those that were checked
module _ {A : Type 0} (b : List ℕ) (words : A → List ℕ) (plain : A → Bool) where
  pub found_lit : (o : Option A) (lit : A) → Found b words plain (Ok o) → o ≡ Some lit → (words lit ≡ b) × Lit b
  unfolding Found
  found_lit o lit found e = let f = rw e at found in (f.0, lit_by_form b (plain lit) f.1)

  pub found_off : (o : Option A) → Found b words plain (Ok o) → o ≡ None → block_form b ≡ Off
  unfolding Found
  found_off o found e = rw e at found

  pub found_bad : (refusal : Refusal) → Found b words plain (Err refusal) → (refusal ≡ BadBlock) × (block_form b ≡ NotWellFormed)
  unfolding Found
  found_bad refusal found = found
