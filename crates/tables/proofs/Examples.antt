-- Closed runs of the definitions, by computation: document 01's cases of the upload, and the order of the refusals. Assumes nothing.
use Rattle.std.proofs.Common.{◌≡◌, ℕ, List, [], get_or, set, replicate, refl}
use lib.Ieee.{Float, nan, binary32, of_bits, of_fields, add, mul, sum, div, neg, of_int, round, units, odd, span, climb, size, to_bits}
use Rattle.refusals.specs.Refusals.{file_refusal, tables_refusal, register_refusal, saved_refusal}
use Rattle.fields.specs.Fields.{upload_value, upload_magnitude, upload_step, upload_value_bits, upload_step_bits}
use Rattle.tables.specs.Tables.{is_data, index, moved, stored, place, put_entry, put, same_entry, changes, last, Wrote, wrote, upload, write_if, write, restored, restore_if, restore, saved, save_if, save, interpolated, table_lookup}

abbrev zeros : ℕ → List ℕ
zeros n = replicate n 0

abbrev last_generation : ℕ
last_generation = 0xFFFFFFFFFFFFFFFF

-- what a write shows: the number, 1C5, the first entry's two words and the generation
record Shown : Type 0 where
  number : ℕ
  register : ℕ
  value : ℕ
  step : ℕ
  generation : ℕ

abbrev shown : ℕ → ℕ → ℕ → ℕ → ℕ → Shown
shown k r v s g = record { number = k; register = r; value = v; step = s; generation = g }

abbrev shows : Wrote → Shown
shows w = shown w.number (index w.file) (get_or w.tables 0 0) (get_or w.tables 1 0) w.generation

-- the word v of table data to zero tables at the generation g, where 1C5 has the word i
uploads : ℕ → ℕ → ℕ → Wrote
uploads g i v = write (set (zeros 474) 0x1C5 i) (zeros 12288) g 0x1C8 v

record Cases : Type 0 where
  -- a fresh unit: 800000 stores 0 and −0
  fresh : shows (write (zeros 474) (zeros 12288) 0 0x1C8 0x800000) ≡ shown 0 1 0 0x80000000 1
  -- the same bits again keep the generation
  again : shows (write (zeros 474) (set (zeros 12288) 1 0x80000000) 1 0x1CF 0x800000) ≡ shown 0 1 0 0x80000000 1
  -- 17FF becomes 1700
  wraps : index (uploads 0 0x17FF 5).file ≡ 0x1700
  -- 1800 becomes 1801 with nothing stored
  beyond : uploads 0 0x1800 0xFFFFFF ≡ wrote 0 (set (zeros 474) 0x1C5 0x1801) (zeros 12288) 0
  -- 4 only where an entry would change
  refused : shows (uploads last_generation 0 0x800000) ≡ shown 4 0 0 0 last_generation
  equal_at_last : shows (uploads last_generation 0 0) ≡ shown 0 1 0 0 last_generation
  beyond_at_last : shows (uploads last_generation 0x1800 0xFFFFFF) ≡ shown 0 0x1801 0 0 last_generation
  -- any other register takes the whole word, in a file of any length from 474
  register : write (zeros 475) (zeros 12288) 7 0x1C5 0xFFFFFFFF ≡ wrote 0 (set (zeros 475) 0x1C5 0xFFFFFFFF) (zeros 12288) 7
  -- the refusals' order
  first : (write (zeros 473) [] 0 474 0).number ≡ 1
  second : (write (zeros 474) [] 0 474 0).number ≡ 2
  third : (write (zeros 474) (zeros 12288) 0 474 0).number ≡ 3

cases : Cases
unfolding uploads write_if file_refusal tables_refusal register_refusal is_data upload changes stored same_entry place put put_entry moved last upload_value_bits upload_step_bits upload_value upload_step upload_magnitude to_bits div neg of_int round units odd span climb size
cases =
    record {
      fresh = refl;
      again = refl;
      wraps = refl;
      beyond = refl;
      refused = refl;
      equal_at_last = refl;
      beyond_at_last = refl;
      register = refl;
      first = refl;
      second = refl;
      third = refl;
    }

-- restore and save
record Whole : Type 0 where
  restores : restore (zeros 12288) 7 (replicate 12288 0x7FC00001) ≡ restored 0 (replicate 12288 0x7FC00001) 8
  tables_first : (restore [] last_generation []).number ≡ 2
  saved_next : (restore (zeros 12288) last_generation []).number ≡ 5
  generation_last : restore (zeros 12288) last_generation (zeros 12288) ≡ restored 4 (zeros 12288) last_generation
  saves : save (replicate 12288 0x7FC00001) (zeros 12288) ≡ saved 0 (replicate 12288 0x7FC00001)
  save_tables_first : save [] [] ≡ saved 2 []
  save_output_next : save (zeros 12288) [] ≡ saved 5 []

whole : Whole
unfolding restore_if save_if tables_refusal saved_refusal last
whole =
    record {
      restores = refl;
      tables_first = refl;
      saved_next = refl;
      generation_last = refl;
      saves = refl;
      save_tables_first = refl;
      save_output_next = refl;
    }

-- 1 + 0.5 · 0.5 in table 1, entry 2; a NaN pattern gives NaN; past the end 0 + 0 · delta
half : Float
half = of_bits binary32 0x3F000000

record Looked : Type 0 where
  between : to_bits binary32 (table_lookup (set (set (zeros 12288) 516 0x3F800000) 517 0x3F000000) 1 2 half) ≡ 0x3FA00000
  pattern : table_lookup (set (zeros 12288) 1 0xFFC00001) 0 0 half ≡ nan
  past : to_bits binary32 (table_lookup [] 24 0 half) ≡ 0

looked : Looked
unfolding half table_lookup interpolated of_bits of_fields add mul sum round units odd span climb size to_bits
looked = record { between = refl; pattern = refl; past = refl }
