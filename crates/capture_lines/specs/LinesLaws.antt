-- Fragments that are shaded alike print alike, and no line is longer than 32 bytes. The fragments are taken one by one, as the loops take them.
-- Assumes nothing.
use Prim.Native.Nat.{ℕ, zero, suc, ◌+◌, ◌-◌, ◌*◌, ◌/◌, ◌≤◌, ◌<◌}
use native.Mathlib.Omega.{arith}
use Rattle.std.proofs.Math.Nat.{sub-zero}
use Rattle.std.specs.Prelude.{◌≡◌, List, [], ◌++◌, Bool, cond, take, drop, eqb}
use Rattle.std.proofs.Math.Path.{refl}
use Rattle.std.proofs.Math.Bool.{true, false}
use Rattle.std.proofs.Math.ListN.{length, length-append, length-drop}
use Rattle.std.proofs.Common.{drop-drop, length-take-le, get_or, ap, ◌∙◌}
use Rattle.printing.specs.declared.Lines.{Lines}
use Rattle.printing.specs.Steps.{Out, out, puts, so_far, Adds}
use Rattle.printing.specs.WritingLaws.{puts_more}
use Rattle.printing.specs.TextLaws.{line_most, refused_most}
use Rattle.printing.specs.Printing.{line, off_line, refused_line}
use Rattle.refusals.specs.Refusals.{number_of}
use Rattle.refusals.specs.declared.Refusal.{Refusal}
use Rattle.refusals.specs.declared.Refusal.TheVariants.{ShortFile, WrongTables, HighRegister, LastGeneration, WrongSaved, WrongBlock, NotWellFormed, BadCapture, WrongFragment}
use Rattle.shading.specs.Shade.{Shaded, shaded}
use Rattle.std.specs.Simd.{first_chunks}
use Rattle.capture_lines.specs.Lines.{no_answer, shown_line, fragment_lines, body_lines}

module _ (f g : List ℕ → Shaded) (alike : (q : List ℕ) → length q ≡ 23 → f q ≡ g q) where
  pub lines_alike : (n : ℕ) (ws : List ℕ) → 23 * n ≤ length ws → fragment_lines f n ws ≡ fragment_lines g n ws
  unfolding fragment_lines
  lines_alike zero ws h = refl
  lines_alike (suc n) ws h =
      let e : f (take 23 ws) ≡ g (take 23 ws) = alike (take 23 ws) (length-take-le 23 ws (omega arith)) in
      rw (e, lines_alike n (drop 23 ws) (rw length-drop (omega arith))) refl

-- a turn: fragment i of n is put, and the lines of the rest are still to come
module _ (f : List ℕ → Shaded) (ws : List ℕ) where
  lines_next : (i n : ℕ) → i < n → fragment_lines f (n - i) (drop (23 * i) ws) ≡ shown_line (f (take 23 (drop (23 * i) ws))) ++ fragment_lines f (n - (i + 1)) (drop (23 * (i + 1)) ws)
  unfolding fragment_lines
  lines_next i n h =
      let e : n - i ≡ suc (n - (i + 1)) = omega arith in
      let d : 23 * (i + 1) ≡ 23 * i + 23 = omega arith in
      rw (e, d, drop-drop)

  pub lines_all : (n : ℕ) → fragment_lines f (n - 0) (drop (23 * 0) ws) ≡ fragment_lines f n ws
  lines_all n = rw (sub-zero n) refl

  pub lines_none : (i n : ℕ) → n ≤ i → fragment_lines f (n - i) (drop (23 * i) ws) ≡ []
  unfolding fragment_lines
  lines_none i n h = let e : n - i ≡ 0 = omega arith in rw e

  pub lines_turn_at : (l l' : List ℕ) (i n next end : ℕ) (q : List ℕ) (all : Out) → i < n → q ≡ take 23 (drop (23 * i) ws)
      → out l' end ≡ puts (out l next) (shown_line (f q)) → puts (out l next) (fragment_lines f (n - i) (drop (23 * i) ws)) ≡ all
      → puts (out l' end) (fragment_lines f (n - (i + 1)) (drop (23 * (i + 1)) ws)) ≡ all
  lines_turn_at l l' i n next end q all h p e a =
      puts_more (out l next) (out l' end) all (shown_line (f q)) (fragment_lines f (n - (i + 1)) (drop (23 * (i + 1)) ws)) e
      (rw p (rw (lines_next i n h) at a))

  -- the same of lines
  pub lines_turn : (a b : Lines) (i n : ℕ) (q : List ℕ) (all : Out) → i < n → q ≡ take 23 (drop (23 * i) ws)
      → Adds a b (shown_line (f q)) → puts (so_far a) (fragment_lines f (n - i) (drop (23 * i) ws)) ≡ all
      → puts (so_far b) (fragment_lines f (n - (i + 1)) (drop (23 * (i + 1)) ws)) ≡ all
  lines_turn a b i n q all h p e o = lines_turn_at a.bytes.now b.bytes.now i n a.len b.len q all h p e.after o

-- a line of eight numbers, `off` and `refused N` have at most 32 bytes
line_fits : (s : Shaded) → length s.answer ≡ 8 → length (shown_line s) ≤ 32
unfolding shown_line
line_fits s e = go _ _
  where
    go : (a b : Bool) → length (cond a (line s.answer) (cond b off_line (refused_line s.number))) ≤ 32
    go true b = omega (arith, line_most s.answer)
    go false true = omega arith
    go false false = omega (arith, refused_most s.number)

module _ (f : List ℕ → Shaded) (eight : (q : List ℕ) → length (f q).answer ≡ 8) where
  lines_fit : (n : ℕ) (ws : List ℕ) → length (fragment_lines f n ws) ≤ 32 * n
  unfolding fragment_lines
  lines_fit zero ws = omega arith
  lines_fit (suc n) ws =
      rw length-append (omega (arith, line_fits (f (take 23 ws)) (eight (take 23 ws)), lines_fit n (drop 23 ws)))

  pub body_fits : (kind : ℕ) (ws : List ℕ) → length (body_lines f kind ws) ≤ 32 * (length ws / 23)
  unfolding body_lines
  body_fits kind ws = go (eqb kind 2)
    where
      go : (b : Bool) → length (cond b (fragment_lines f (length ws / 23) ws) []) ≤ 32 * (length ws / 23)
      go true = lines_fit (length ws / 23) ws
      go false = omega arith

-- ---- the fragments as the code has them, and the lines of what is not lit

-- fragment i is the i-th chunk of 23 words
pub fragment_at : (n : ℕ) (ws : List ℕ) (i : ℕ) (d : List ℕ) → i < n → get_or (first_chunks 23 n ws) i d ≡ take 23 (drop (23 * i) ws)
fragment_at zero ws i d h = absurd (omega arith)
fragment_at (suc n) ws zero d h = refl
fragment_at (suc n) ws (suc i) d h =
    let e : 23 + 23 * i ≡ 23 * suc i = omega arith in
    fragment_at n (drop 23 ws) i d (omega arith) ∙ ap (λ (r : List ℕ). take 23 r) (drop-drop (23 * i) 23 ws ∙ ap (λ (m : ℕ). drop m ws) e)

-- every refusal is shown by its number
pub refused_shown : (k : Refusal) → shown_line (shaded (number_of k) no_answer) ≡ refused_line (number_of k)
unfolding shown_line
refused_shown ShortFile = refl
refused_shown WrongTables = refl
refused_shown HighRegister = refl
refused_shown LastGeneration = refl
refused_shown WrongSaved = refl
refused_shown WrongBlock = refl
refused_shown NotWellFormed = refl
refused_shown BadCapture = refl
refused_shown WrongFragment = refl
