-- IEEE 754's squareRoot at binary32: "Root is the correctly rounded square root; a negative nonzero number gives NaN, −0 gives −0." Definitions only.
-- By whole-number squares, over the values of `lib.Ieee`: `fin s m e` is m · 2^e with the sign s, of a format with `prec` digits whose smallest value is
-- 2^−low; `nearest q o` is q or q + 1, by how the exact value compares with the middle of the two, and the even one at a tie; `units f s q k` is q · 2^k
-- smallest values. That root_of is nearer to the root than every other value, so that no tie occurs, is a theorem (Closest).
use Prim.Native.Nat.{ℕ, zero, suc, ◌+◌, ◌-◌, ◌*◌, ◌/◌, ◌^◌, compare, Ordering}
use Rattle.std.specs.Prelude.{true, false, cond, leb, Float}
use Rattle.std.specs.Float.{nan, inf, fin, Format, binary32}
use Rattle.std.specs.Float.Ieee.{prec, low, up, down, size, nearest, units}

-- the largest whole number whose square is at most n, for an n below 4^d: all its binary digits but the last are those of the root of n / 4
unfoldable pub digits : ℕ → ℕ → ℕ
digits zero n = 0
digits (suc d) n = let r = 2 * digits d (n / 4) in cond (leb ((r + 1) * (r + 1)) n) (r + 1) r

-- the same for any n, which has `size n` binary digits and so is below 4^(size n)
unfoldable pub isqrt : ℕ → ℕ
unfolding digits size
isqrt n = digits (size n) n

-- how the root of n compares with the middle of q · 2^k and (q + 1) · 2^k, which is (2 q + 1) · 2^k / 2: asked of the squares, times 4
unfoldable pub against_middle : ℕ → ℕ → ℕ → Ordering
against_middle n q k = let h = (2 * q + 1) * 2 ^ k in compare (4 * n) (h * h)

-- the value nearest to the root of N smallest values: in that unit it is the root of the whole number n = N · 2^low, of whose whole part the format
-- keeps the `prec` leading digits, q, and drops k
unfoldable pub root_units : Format → ℕ → Float
unfolding isqrt size units against_middle
root_units f N =
    let n = N * 2 ^ low f in
    let k = size (isqrt n) - prec f in
    let q = isqrt n / 2 ^ k in
    units f false (nearest q (against_middle n q k)) k

-- how many smallest values of binary32, 2^−149, a finite value is: a whole number, since the format holds no part of that unit
abbrev pub in_units : Float → ℕ
in_units nan = 0
in_units (inf s) = 0
in_units (fin s m e) = m * up e * 2 ^ low binary32 / down e

unfoldable pub root_of : Float → Float
unfolding root_units
root_of nan = nan
root_of (inf true) = nan
root_of (inf false) = inf false
root_of (fin s zero e) = fin s zero e
root_of (fin true (suc m) e) = nan
root_of (fin false (suc m) e) = root_units binary32 (in_units (fin false (suc m) e))
