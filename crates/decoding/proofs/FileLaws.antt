-- What a reading does not look at: the words after the first 474, and whether a register is 0 or not there, for one that is not there reads as 0. Assumes nothing.
use Rattle.std.specs.Prelude.{ℕ, zero, suc, ◌+◌, ◌<◌, ◌≤◌, ◌≡◌, List, [], ◌∷◌, ◌++◌, get_or, take, drop, replicate}
use Rattle.std.proofs.Common.{refl, arith, get_or-take, take-take, lit<, lit≤}
use Rattle.decoding.specs.Claims.{SameKept}
use Rattle.decoding.specs.Registers.{register_of}
use Rattle.decoding.specs.Read.{read, registers_read}
use Rattle.decoding.proofs.DecodeLaws.{read_same, read_same_kept}

-- the kept words are among the first 474
part_take : (a b c : ℕ) (f : List ℕ) → b + a ≤ c → take a (drop b (take c f)) ≡ take a (drop b f)
part_take a zero c f h = take-take a c f (omega arith)
part_take a (suc b) zero f h = absurd (omega arith)
part_take a (suc b) (suc c) [] h = refl
part_take a (suc b) (suc c) (x ∷ xs) h = part_take a b c xs (omega arith)

pub kept_first : (f : List ℕ) → registers_read (take 474 f) ≡ registers_read f
unfolding registers_read
kept_first f =
    rw (get_or-take 474 f 0x08F 0 (lit< tt), part_take 133 0x140 474 f (lit≤ tt), get_or-take 474 f 0x1C6 0 (lit< tt), part_take 3 0x1D0 474 f (lit≤ tt), get_or-take 474 f 0x1D9 0 (lit< tt))

pub read_first : (f : List ℕ) → read (take 474 f) ≡ read f
read_first f = read_same (take 474 f) f (kept_first f)

-- zeros behind a file are the registers that it doesn't have
register_padded : (f : List ℕ) (n r : ℕ) → register_of (f ++ replicate n 0) r ≡ register_of f r
register_padded [] zero r = refl
register_padded [] (suc n) zero = refl
register_padded [] (suc n) (suc r) = register_padded [] n r
register_padded (x ∷ f) n zero = refl
register_padded (x ∷ f) n (suc r) = register_padded f n r

pub read_padded : (f : List ℕ) (n : ℕ) → read (f ++ replicate n 0) ≡ read f
read_padded f n =
    let same = register_padded f n in
    read_same_kept (f ++ replicate n 0) f
    (record {
      enable = same _;
      lights = record { blocks = λ k h. same _; slots = same _ };
      disable = same _;
      tables = λ k h. same _;
    })
