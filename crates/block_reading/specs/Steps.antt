-- What the code computes step by step; nobody has to trust it: the contracts of `lighting_with` and `read_block` tie it to Block's `block_lighting_with` and
-- `block_read`, and FormLaws say what a form means. Definitions only.
use Rattle.std.specs.Prelude.{ℕ, ◌≡◌, Bool, cond, eqb, List, Option, None, Some, Result, Ok, Err}
use Rattle.refusals.specs.declared.Refusal.{Refusal}
use Rattle.refusals.specs.declared.Refusal.TheVariants.{NotWellFormed as BadBlock}
use Rattle.lighting.specs.declared.TableLookups.{TableLookups}
use Rattle.block.specs.declared.BlockForm.TheVariants.{Off, NotWellFormed, NanFree, WithNan}
use Rattle.block.specs.Steps.{block_form}
use Rattle.block.specs.Block.{from, lookup_at, bit_at, block_bump, block_shadow, block_lookup, block_optional_lookup}
use Rattle.block_reading.specs.declared.head.Options.{Options}

-- ---- the head, in two parts

-- the words before the lookups but the count
unfoldable pub head_options : (ℕ → ℕ) → Options
head_options w =
    record {
      config = w 0;
      bump = block_bump (w 2);
      shadow = block_shadow (w 3);
      fresnel_primary = eqb (w 4) 1;
      fresnel_secondary = eqb (w 5) 1;
      clamp_highlights = eqb (w 6) 1;
      needs_half = bit_at (w 7) 1;
      needs_view = bit_at (w 7) 2;
    }

-- the lookups
unfoldable pub head_lookups : (ℕ → ℕ) → TableLookups
head_lookups w =
    record {
      distribution0 = block_optional_lookup (from w (lookup_at 0));
      distribution1 = block_optional_lookup (from w (lookup_at 1));
      fresnel = block_optional_lookup (from w (lookup_at 2));
      reflect_red = block_optional_lookup (from w (lookup_at 3));
      reflect_green = block_optional_lookup (from w (lookup_at 4));
      reflect_blue = block_optional_lookup (from w (lookup_at 5));
      spotlight = block_lookup (from w (lookup_at 6));
    }

-- ---- what the check found

-- a lit block's words are those that were checked, and its mark says whether none is a NaN's pattern
unfoldable pub Found : {A : Type 0} → List ℕ → (A → List ℕ) → (A → Bool) → Result (Option A) Refusal → Type 0
Found b words plain (Ok None) = block_form b ≡ Off
Found b words plain (Ok (Some lit)) = (words lit ≡ b) × (block_form b ≡ cond (plain lit) NanFree WithNan)
Found b words plain (Err refusal) = (refusal ≡ BadBlock) × (block_form b ≡ NotWellFormed)
