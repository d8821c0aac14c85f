-- The bytes of a number are the definition's, and one word more has its four more. Assumes nothing.
use Rattle.std.proofs.Common.{ℕ, ◌+◌, ◌/◌, ◌%◌, ◌^◌, ◌<◌, ◌≡◌, List, [], ◌∷◌, ◌++◌, length, get_or, take, w32, arith, add-one, refl, ap}
use Rattle.std.proofs.Math.Seq.{take-suc}
use Rattle.std.specs.Int.{to_le_bytes}
use Rattle.lighting_abi.specs.Boundary.{bytes_of}

pub bytes_of_one : (n : ℕ) → n < 2 ^ 32 → to_le_bytes w32 n ≡ bytes_of (n ∷ [])
unfolding bytes_of
bytes_of_one n h = let e : n / 0x100_0000 % 0x100 ≡ n / 0x100_0000 = omega arith in rw e refl

bytes_append : (a b : List ℕ) → bytes_of (a ++ b) ≡ bytes_of a ++ bytes_of b
unfolding bytes_of
bytes_append [] b = refl
bytes_append (w ∷ a) b = ap (λ (l : List ℕ). w % 0x100 ∷ w / 0x100 % 0x100 ∷ w / 0x1_0000 % 0x100 ∷ w / 0x100_0000 ∷ l) (bytes_append a b)

pub bytes_more : (k : List ℕ) (i : ℕ) → i < length k → bytes_of (take (i + 1) k) ≡ bytes_of (take i k) ++ bytes_of (get_or k i 0 ∷ [])
bytes_more k i h = rw (add-one, take-suc k i 0 h) (bytes_append (take i k) (get_or k i 0 ∷ []))
