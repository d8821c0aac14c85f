-- Laws of the register write. It ends in one of four ways, told by `write_cases`, and the other laws go through these. Assumes nothing.
use Rattle.std.specs.Prelude.{◌≡◌, ℕ, zero, suc, ◌+◌, ◌<◌, ◌≤◌, Bool, true, false, cond, ◌&&◌, ◌⊎◌, List, length, take, drop, ◌≢◌, slice_set}
use Rattle.std.proofs.Math.Path.{refl, ap}
use Rattle.std.proofs.Common.{sym, ◌∙◌, inl, inr, true≢false, get_or-take, drop-set-lt, length-take-le, lit<, le-leb}
use Rattle.std.proofs.Math.Bool.{and-false}
use Rattle.std.proofs.Math.Seq.{take-set-lt}
use Rattle.refusals.specs.Refusals.{file_refusal, tables_refusal, register_refusal, ◌else◌}
use Rattle.tables.specs.Tables.{is_data, index, moved, moved_on, put_entry, put, changes, last, raised, Wrote, wrote, write_refusal, upload, write_if, write}
use Rattle.tables.proofs.UploadLaws.{put_same, put_changed, put_entry_differs}
use Rattle.tables.specs.RefusalLaws.{write_lengths}

-- the lengths and the register that a write past 1, 2 and 3 has
pub record Accepted (f t : List ℕ) (r : ℕ) : Type 0 where
  pub whole : 474 ≤ length f
  pub full : length t ≡ 12288
  pub low : r < 474

-- an upload by its three cases
pub upload_same : (f t : List ℕ) (g v : ℕ) → changes t (index f) v ≡ false → upload f t g v ≡ wrote 0 (moved_on f) t g
unfolding upload
upload_same f t g v e = rw (e, put_same t (index f) v e) refl

pub upload_refused : (f t : List ℕ) (g v : ℕ) → changes t (index f) v ≡ true → last g ≡ true → upload f t g v ≡ wrote 4 f t g
unfolding upload
upload_refused f t g v e l = rw (e, l) refl

pub upload_changed : (f t : List ℕ) (g v : ℕ) → changes t (index f) v ≡ true → last g ≡ false → upload f t g v ≡ wrote 0 (moved_on f) (put_entry t (index f) v) (g + 1)
unfolding upload
upload_changed f t g v e l = rw (e, l, put_changed t (index f) v e) refl

-- a write past 1, 2 and 3: below the last generation, table data is put and 1C5 moves on; any other register takes the word
pub write_data : (f t : List ℕ) (g r v : ℕ) → write_refusal (length f) (length t) r ≡ 0 → is_data r ≡ true → last g ≡ false → write f t g r v ≡ wrote 0 (moved_on f) (put t (index f) v) (raised (changes t (index f) v) g)
unfolding write_if upload
write_data f t g r v e d l = rw (e, d, l, and-false (changes t (index f) v)) refl

pub write_register : (f t : List ℕ) (g r v : ℕ) → write_refusal (length f) (length t) r ≡ 0 → is_data r ≡ false → write f t g r v ≡ wrote 0 (slice_set f r v) t g
unfolding write_if
write_register f t g r v e d = rw (e, d) refl

module _ (P : Wrote → Type 0) (f t : List ℕ) (g r v : ℕ) where
  upload_cases : ((k : ℕ) → P (wrote (suc k) f t g)) → (changes t (index f) v ≡ false → P (wrote 0 (moved_on f) t g)) → (changes t (index f) v ≡ true → last g ≡ false → P (wrote 0 (moved_on f) (put_entry t (index f) v) (g + 1))) → P (upload f t g v)
  upload_cases refused same changed = go (changes t (index f) v) (last g) refl refl
    where
      go : (b l : Bool) → changes t (index f) v ≡ b → last g ≡ l → P (upload f t g v)
      go false l e d = rw (upload_same f t g v e) (same e)
      go true true e d = rw (upload_refused f t g v e d) (refused 3)
      go true false e d = rw (upload_changed f t g v e d) (changed e d)

  -- what holds of a refused write, of a register's, of an upload that changes nothing and of one that changes an entry holds of every write
  pub write_cases : ((k : ℕ) → P (wrote (suc k) f t g)) → (Accepted f t r → is_data r ≡ false → P (wrote 0 (slice_set f r v) t g)) → (Accepted f t r → is_data r ≡ true → changes t (index f) v ≡ false → P (wrote 0 (moved_on f) t g)) → (Accepted f t r → is_data r ≡ true → changes t (index f) v ≡ true → last g ≡ false → P (wrote 0 (moved_on f) (put_entry t (index f) v) (g + 1))) → P (write f t g r v)
  unfolding write_if
  write_cases refused register same changed = go (write_refusal (length f) (length t) r) refl
    where
      accepted : write_refusal (length f) (length t) r ≡ 0 → Accepted f t r
      accepted e =
          let h = write_lengths (length f) (length t) r e in
          record { whole = h.0; full = h.1; low = h.2 }

      picked : Accepted f t r → (b : Bool) → is_data r ≡ b → P (cond b (upload f t g v) (wrote 0 (slice_set f r v) t g))
      picked a true d = upload_cases refused (same a d) (changed a d)
      picked a false d = register a d

      go : (q : ℕ) → write_refusal (length f) (length t) r ≡ q → P (write_if q f t g r v)
      go zero e = picked (accepted e) (is_data r) refl
      go (suc k) e = refused k

module _ (f t : List ℕ) (g r v : ℕ) where
  -- the generation stays with the tables, or rises by one with an entry that changes
  pub write-generation : (((write f t g r v).generation ≡ g) × ((write f t g r v).tables ≡ t)) ⊎ (((write f t g r v).generation ≡ g + 1) × ((write f t g r v).tables ≢ t))
  write-generation =
      write_cases (λ w. ((w.generation ≡ g) × (w.tables ≡ t)) ⊎ ((w.generation ≡ g + 1) × (w.tables ≢ t))) f t g r v
      (λ k. inl (refl, refl))
      (λ a d. inl (refl, refl))
      (λ a d e. inl (refl, refl))
      (λ a d e l. inr (refl, put_entry_differs t (index f) v a.full e))

  -- outside 1C8 to 1CF no entry is touched
  pub write_elsewhere : is_data r ≡ false → ((write f t g r v).tables ≡ t) × ((write f t g r v).generation ≡ g)
  write_elsewhere n =
      write_cases (λ w. (w.tables ≡ t) × (w.generation ≡ g)) f t g r v
      (λ k. (refl, refl))
      (λ a d. (refl, refl))
      (λ a d e. (refl, refl))
      (λ a d e l. absurd (true≢false (sym d ∙ n)))

  -- the words of the file from 474 on stay
  pub write_rest : drop 474 (write f t g r v).file ≡ drop 474 f
  write_rest =
      write_cases (λ w. drop 474 w.file ≡ drop 474 f) f t g r v
      (λ k. refl)
      (λ a d. drop-set-lt 474 f r v a.low)
      (λ a d e. drop-set-lt 474 f 0x1C5 (moved (index f)) (lit< tt))
      (λ a d e l. drop-set-lt 474 f 0x1C5 (moved (index f)) (lit< tt))

  -- below the last generation 4 is not met
  pub write-number : last g ≡ false → (write f t g r v).number ≡ write_refusal (length f) (length t) r
  unfolding write_if
  write-number n = go (write_refusal (length f) (length t) r) refl
    where
      done : write_refusal (length f) (length t) r ≡ 0 → (b : Bool) → is_data r ≡ b → (write f t g r v).number ≡ 0
      done e true d = ap (λ (w : Wrote). w.number) (write_data f t g r v e d n)
      done e false d = ap (λ (w : Wrote). w.number) (write_register f t g r v e d)

      go : (q : ℕ) → write_refusal (length f) (length t) r ≡ q → (write f t g r v).number ≡ write_refusal (length f) (length t) r
      go zero e = done e (is_data r) refl ∙ sym e
      go (suc k) e = rw e refl

-- only the first 474 words of the file count: with the others away, a write gives the same number, tables, generation and first 474 words
abbrev front : Wrote → Wrote
front w = wrote w.number (take 474 w.file) w.tables w.generation

front_cond : (b : Bool) (x y : Wrote) → cond b (front x) (front y) ≡ front (cond b x y)
front_cond true x y = refl
front_cond false x y = refl

front-upload : (f t : List ℕ) (g v : ℕ) → upload (take 474 f) t g v ≡ front (upload f t g v)
unfolding upload
front-upload f t g v =
    rw (get_or-take 474 f 0x1C5 0 (lit< tt), ← (take-set-lt 474 f 0x1C5 (moved (index f)) (lit< tt)))
    (front_cond (changes t (index f) v && last g) (wrote 4 f t g) (wrote 0 (moved_on f) (put t (index f) v) (raised (changes t (index f) v) g)))

pub write_first : (f t : List ℕ) (g r v : ℕ) → 474 ≤ length f → write (take 474 f) t g r v ≡ wrote (write f t g r v).number (take 474 (write f t g r v).file) (write f t g r v).tables (write f t g r v).generation
unfolding write_if file_refusal
write_first f t g r v h =
    rw (length-take-le 474 f h, le-leb 474 (length f) h)
    (go (tables_refusal (length t) else register_refusal r) (rw (le-leb 474 (length f) h) refl))
  where
    go : (q : ℕ) → write_refusal (length f) (length t) r ≡ q → write_if q (take 474 f) t g r v ≡ front (write_if q f t g r v)
    go zero e =
        rw (front-upload f t g v, ← (take-set-lt 474 f r v (write_lengths (length f) (length t) r e).2))
        (front_cond (is_data r) (upload f t g v) (wrote 0 (slice_set f r v) t g))
    go (suc k) e = refl
