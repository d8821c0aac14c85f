-- Laws of the upload: an entry is put within the tables, an entry whose bits do not change is put back as it was, and 1C5 keeps all bits but its entry's. Assumes nothing.
use Rattle.std.specs.Prelude.{◌≡◌, ℕ, ◌+◌, ◌/◌, ◌%◌, ◌<◌, Bool, true, false, cond, not, ◌&&◌, List, length, ◌==◌, ◌≢◌, slice_index, slice_index_or, slice_set, refl}
use Rattle.std.proofs.Common.{arith, sym, ap, ◌∙◌, true≢false, length-set, get_or-set_same, get_or-set_other, ltb-true, eqb-true, eq-eqb}
use Rattle.std.proofs.lemmas.Bool.{and_parts, false≢true}
use Rattle.std.proofs.lemmas.List.{set-get_or}
use Rattle.fields.specs.Fields.{upload_value_bits, upload_step_bits}
use Rattle.tables.specs.Tables.{moved, stored, place, put_entry, put, same_entry, changes}

-- 1C5 moved on: the bits above the entry stay
pub moved_above : (i : ℕ) → moved i / 256 ≡ i / 256
unfolding moved
moved_above i = omega arith

pub moved_entry : (i : ℕ) → moved i % 256 ≡ (i % 256 + 1) % 256
unfolding moved
moved_entry i = omega arith

-- an entry that is stored has both its words within 12,288
pub place_within : (i : ℕ) → stored i ≡ true → place i + 1 < 12288
unfolding stored place
place_within i e = omega (arith, ltb-true (i / 256 % 32) 24 e)

pub length-put_entry : (t : List ℕ) (i v : ℕ) → length (put_entry t i v) ≡ length t
unfolding put_entry
length-put_entry t i v = simp length-set

length_cond : (b : Bool) (x t : List ℕ) → length x ≡ length t → length (cond b x t) ≡ length t
length_cond true x t e = e
length_cond false x t e = refl

pub length-put : (t : List ℕ) (i v : ℕ) → length (put t i v) ≡ length t
unfolding put
length-put t i v = length_cond (stored i) (put_entry t i v) t (length-put_entry t i v)

same_put_entry : (t : List ℕ) (i v : ℕ) → same_entry t i v ≡ true → put_entry t i v ≡ t
unfolding same_entry put_entry
same_put_entry t i v e =
    let h = and_parts (slice_index t (place i) == upload_value_bits v) _ e in
    let p : slice_index_or t (place i) 0 ≡ upload_value_bits v = eqb-true _ _ h.0 in
    let q : slice_index_or t (place i + 1) 0 ≡ upload_step_bits v = eqb-true _ _ h.1 in
    rw (← p, ← q, set-get_or) (set-get_or t (place i + 1) 0)

put_or : (b s : Bool) (x t : List ℕ) → (s ≡ true → x ≡ t) → (b && not s) ≡ false → cond b x t ≡ t
put_or true true x t h e = h refl
put_or true false x t h e = absurd (true≢false e)
put_or false s x t h e = refl

-- where no entry changes, the tables do not
pub put_same : (t : List ℕ) (i v : ℕ) → changes t i v ≡ false → put t i v ≡ t
unfolding put changes
put_same t i v e = put_or (stored i) (same_entry t i v) (put_entry t i v) t (same_put_entry t i v) e

-- where one does, they are those with the entry put
pub put_changed : (t : List ℕ) (i v : ℕ) → changes t i v ≡ true → put t i v ≡ put_entry t i v
unfolding put changes
put_changed t i v e = rw (and_parts (stored i) (not (same_entry t i v)) e).0 refl

put_entry_value : (t : List ℕ) (i v : ℕ) → place i + 1 < length t → slice_index (put_entry t i v) (place i) ≡ upload_value_bits v
unfolding put_entry
put_entry_value t i v h =
    get_or-set_other (slice_set t (place i) (upload_value_bits v)) (place i + 1) (place i) (upload_step_bits v) 0 (λ e. omega arith)
    ∙ get_or-set_same t (place i) (upload_value_bits v) 0 (omega arith)

put_entry_step : (t : List ℕ) (i v : ℕ) → place i + 1 < length t → slice_index (put_entry t i v) (place i + 1) ≡ upload_step_bits v
unfolding put_entry
put_entry_step t i v h =
    get_or-set_same (slice_set t (place i) (upload_value_bits v)) (place i + 1) (upload_step_bits v) 0 (simp length-set h)

-- and they differ from those before
pub put_entry_differs : (t : List ℕ) (i v : ℕ) → length t ≡ 12288 → changes t i v ≡ true → put_entry t i v ≢ t
unfolding changes same_entry
put_entry_differs t i v l e q =
    let h = and_parts (stored i) (not (same_entry t i v)) e in
    let within : place i + 1 < length t = omega (arith, place_within i h.0) in
    let value : slice_index_or t (place i) 0 ≡ upload_value_bits v = ap (λ (s : List ℕ). slice_index s (place i)) (sym q) ∙ put_entry_value t i v within in
    let step : slice_index_or t (place i + 1) 0 ≡ upload_step_bits v = ap (λ (s : List ℕ). slice_index s (place i + 1)) (sym q) ∙ put_entry_step t i v within in
    false≢true (rw (eq-eqb _ _ value, eq-eqb _ _ step) at h.1)
