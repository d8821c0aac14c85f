-- A capture's contents and bodies, and what is refused of it, 8 and 3. "The program `lightshow` reads a capture on standard input: little-endian words, at most 65,536 bytes." Its
-- words are `sources/specs/Sources: words_of`. First the contents, then the rules of refusal 8, then that of 3, then the order of the two. Definitions only.
use Rattle.std.specs.Prelude.{ℕ, zero, suc, ◌+◌, ◌*◌, ◌%◌, List, [], ◌∷◌, Bool, true, false, cond, ◌&&◌, ltb, leb, eqb, length, get_or, take, drop}
use Rattle.sources.specs.Sources.{words_of}

-- ---- "Contents first: n (0–16), then n triples kind, offset, length, in words"

-- n, of the words w
abbrev pub body_count : List ℕ → ℕ
body_count w = get_or w 0 0

-- a triple; its length is called size here
pub record Body : Type 0 where
  pub kind : ℕ
  pub offset : ℕ
  pub size : ℕ

abbrev pub body : ℕ → ℕ → ℕ → Body
body k o s = record { kind = k; offset = o; size = s }

-- the triple i of the words w
abbrev pub triple : List ℕ → ℕ → Body
triple w i = body (get_or w (1 + 3 * i) 0) (get_or w (2 + 3 * i) 0) (get_or w (3 + 3 * i) 0)

-- k triples from i on
unfoldable pub triples : List ℕ → ℕ → ℕ → List Body
triples w i zero = []
triples w i (suc k) = triple w i ∷ triples w (suc i) k

abbrev pub contents : List ℕ → List Body
contents w = triples w 0 (body_count w)

-- where the contents of n bodies end, and the first body begins
abbrev pub contents_end : ℕ → ℕ
contents_end n = 1 + 3 * n

-- the words of a body
abbrev pub words_in : List ℕ → Body → List ℕ
words_in w b = take b.size (drop b.offset w)

-- ---- refusal 8: each rule is told as what is right

-- "input empty, above 65,536 bytes or no multiple of 4", of n bytes
unfoldable pub sized : ℕ → Bool
sized n = ltb 0 n && (leb n 65536 && eqb (n % 4) 0)

-- "an unknown kind"; "a length not a multiple of 2 (kind 1), of 23 (kind 2) or not 12,288 (kind 3)"
unfoldable pub size_right : ℕ → ℕ → Bool
size_right kind size =
    cond (eqb kind 1) (eqb (size % 2) 0)
    (cond (eqb kind 2) (eqb (size % 23) 0)
    (cond (eqb kind 3) (eqb size 12288) false))

-- "an offset other than the end of what stands before it", which is `at`; "a body past the end of the input", which is `end`
unfoldable pub lies : Body → ℕ → ℕ → Bool
lies b at end = eqb b.offset at && (leb (at + b.size) end && size_right b.kind b.size)

-- "bodies follow without gaps in that order to the end", from `at` on; "words after the last body"
unfoldable pub gapless : List Body → ℕ → ℕ → Bool
gapless [] at end = eqb at end
gapless (b ∷ bs) at end = lies b at end && gapless bs (at + b.size) end

-- the form of a capture's words: "n above 16"; "contents .. past the end of the input"; then the bodies
unfoldable pub shaped : List ℕ → Bool
shaped w =
    leb (body_count w) 16
    && (leb (contents_end (body_count w)) (length w)
    && gapless (contents w) (contents_end (body_count w)) (length w))

-- ---- refusal 3: "a register too high in any kind 1 body"

-- no register of these register, value pairs is too high
unfoldable pub registers_in : List ℕ → Bool
registers_in [] = true
registers_in (r ∷ []) = true
registers_in (r ∷ v ∷ rest) = ltb r 474 && registers_in rest

-- of a body of this kind and these words
unfoldable pub body_right : ℕ → List ℕ → Bool
body_right kind ws = cond (eqb kind 1) (registers_in ws) true

-- of these bodies of the words w
unfoldable pub registers_right : List ℕ → List Body → Bool
registers_right w [] = true
registers_right w (b ∷ bs) = body_right b.kind (words_in w b) && registers_right w bs

-- ---- the refusal of a capture, 0 for none: "8 ..; then 3 .."

-- of the words of an input whose size is right
unfoldable pub capture_words_refusal : List ℕ → ℕ
capture_words_refusal w = cond (shaped w) (cond (registers_right w (contents w)) 0 3) 8

-- of the input's bytes
unfoldable pub capture_refusal : List ℕ → ℕ
capture_refusal input = cond (sized (length input)) (capture_words_refusal (words_of input)) 8
