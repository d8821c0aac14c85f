-- A line of eight numbers has at most 32 bytes, three digits and a gap each; the other two lines are shorter. And a line is its first number,
-- the gap and the line of the rest. Assumes nothing.
use Rattle.std.specs.Prelude.{ℕ, ◌+◌, ◌*◌, ◌≤◌, ◌<◌, ◌≡◌, refl, List, [], ◌∷◌, ◌++◌, Bool, true, false, cond, length, get_or, drop, set, eqb}
use Rattle.std.proofs.Common.{arith, sym, ap, ◌∙◌, length-append, eqb-true}
use Rattle.std.proofs.lemmas.Bool.{eqb-false}
use Rattle.printing.specs.declared.Lines.{Lines}
use Rattle.printing.specs.Steps.{Out, out, puts, so_far, Adds}
use Rattle.printing.specs.WritingLaws.{puts_more}
use Rattle.sources.specs.PieceLaws.{drop_one, drop_none}
use Rattle.printing.specs.Printing.{decimal, gap, line, refused_line}
use Rattle.printing.specs.DecimalLaws.{decimal_most}

pub line_most : (l : List ℕ) → length (line l) ≤ 4 * length l
unfolding line
line_most [] = omega arith
line_most (k ∷ rest) =
    simp length-append (omega (arith, decimal_most k, line_most rest))

pub refused_most : (n : ℕ) → length (refused_line n) ≤ 12
refused_most n = simp length-append (omega (arith, decimal_most n))

-- number by number
line_next : (k : List ℕ) (i : ℕ) → i < length k → line (drop i k) ≡ decimal (get_or k i 0) ++ (gap (drop (i + 1) k) ∷ line (drop (i + 1) k))
unfolding line
line_next k i h = rw (drop_one k i h)

pub line_none : (k : List ℕ) (i : ℕ) → length k ≤ i → line (drop i k) ≡ []
unfolding line
line_none k i h = rw (drop_none k i h)

gap_last : (k : List ℕ) (i : ℕ) → length k ≤ i → gap (drop i k) ≡ 10
unfolding gap
gap_last k i h = rw (drop_none k i h)

gap_more : (k : List ℕ) (i : ℕ) → i < length k → gap (drop i k) ≡ 32
unfolding gap
gap_more k i h = rw (drop_one k i h)

gap_at : (k : List ℕ) (i : ℕ) → length k ≡ 8 → i < 8 → gap (drop (i + 1) k) ≡ cond (eqb i 7) 10 32
gap_at k i e h = go (eqb i 7) refl
  where
    go : (b : Bool) → eqb i 7 ≡ b → gap (drop (i + 1) k) ≡ cond b 10 32
    go true t = gap_last k (i + 1) (omega (arith, eqb-true i 7 t))
    go false t = let n : i ≡ 7 → ⊥ = eqb-false i 7 t in gap_more k (i + 1) (omega arith)

-- a turn: the number i and its gap are put, and the line of the rest is still to come
pub line_turn_at : (k l l' : List ℕ) (i next end g : ℕ) (all : Out) → length k ≡ 8 → i < 8 → g ≡ cond (eqb i 7) 10 32
    → out l' end ≡ puts (out l next) (decimal (get_or k i 0)) → puts (out l next) (line (drop i k)) ≡ all
    → puts (out (set l' end g) (end + 1)) (line (drop (i + 1) k)) ≡ all
unfolding puts
line_turn_at k l l' i next end g all n h p e a =
    puts_more (out l next) (out l' end) all (decimal (get_or k i 0)) (g ∷ line (drop (i + 1) k)) e
    (ap (λ (x : ℕ). puts (out l next) (decimal (get_or k i 0) ++ (x ∷ line (drop (i + 1) k)))) (p ∙ sym (gap_at k i n h))
    ∙ ap (puts (out l next)) (sym (line_next k i (omega arith)))
    ∙ a)

-- the same of lines
pub line_turn : (a b c : Lines) (k : List ℕ) (i g : ℕ) (all : Out) → length k ≡ 8 → i < 8 → g ≡ cond (eqb i 7) 10 32
    → Adds a b (decimal (get_or k i 0)) → Adds b c (g ∷ []) → puts (so_far a) (line (drop i k)) ≡ all
    → puts (so_far c) (line (drop (i + 1) k)) ≡ all
unfolding puts
line_turn a b c k i g all n h p d e o =
    ap (λ (x : Out). puts x (line (drop (i + 1) k))) e.after
    ∙ line_turn_at k a.bytes.now b.bytes.now i a.len b.len g all n h p d.after o
