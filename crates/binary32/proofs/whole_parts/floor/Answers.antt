-- `whole_parts::floor` meets its contract: each return is a case of `FloorDigitLaws`, at the pattern of x, which stands for x.
use mathlib.Core.Path.{◌≡◌, sym, ap, subst, ◌∙◌}
use mathlib.Core.Bool.{true, false}
use Prim.Native.Nat.{◌%◌, ◌<◌}
use native.Mathlib.Nat.{le_of_lt}
use native.Mathlib.Omega.{arith}
use borrow.Author.Tests.{eq-eqb, ne_eqb}
use lib.Dec.{T}
use lib.Ieee.{Float, binary32, eq, fits, of_bits, to_bits}
use lib.Ieee.Bits.{of_bits-to_bits}
use Rattle.binary32.specs.Binary32.{floor_of}
use Rattle.binary32.specs.NanLaws.{itself, differs}
use Rattle.binary32.specs.CastLaws.{exact}
use Rattle.binary32.specs.FloorDigitLaws.{floor_nan, floor_zero, some_bit, floor_large, kept_few, floor_plus, floor_minus_whole, floor_minus_rest}
use Rattle.binary32.proofs.whole_parts.floor.Goals as goal

-- what is known of an `f32` that is passed: the format holds it
back : (x : Float) → true ≡ fits binary32 x → of_bits binary32 (to_bits binary32 x) ≡ x
back x w = of_bits-to_bits binary32 x (subst T w tt)

-- from the floor at the pattern to that at x
at : (x r : Float) → true ≡ fits binary32 x → r ≡ floor_of (of_bits binary32 (to_bits binary32 x)) → r ≡ floor_of x
at x r w e = e ∙ ap floor_of (back x w)

bit : (x : Float) → true ≡ fits binary32 x → eq x (of_bits binary32 0) ≡ false → 0 < to_bits binary32 x % 2147483648
bit x w h = some_bit (to_bits binary32 x) (ap (λ (v : Float). eq v (of_bits binary32 0)) (back x w) ∙ h)

pub returns-then-x : goal.returns-then-x
returns-then-x c = let e = differs c.args.x c.if-x.true in e ∙ sym (ap floor_of e ∙ floor_nan)

pub returns-then-x-2 : goal.returns-then-x-2
returns-then-x-2 c = sym (floor_zero c.args.x (subst T (sym c.well_formed.0.1) tt) c.if-x-2.true)

pub float_to_bits-b : goal.float_to_bits-b
float_to_bits-b c = itself c.args.x c.if-x.false

pub returns-then-e-ge150 : goal.returns-then-e-ge150
returns-then-e-ge150 c =
    let x = c.args.x in
    let w = sym c.well_formed.0.1 in
    at x x w (sym (back x w) ∙ sym (floor_large (to_bits binary32 x) c.if-e-ge150.true))

pub int_to_float-result : goal.int_to_float-result
int_to_float-result c = exact _ (le_of_lt (kept_few (to_bits binary32 c.args.x) c.behind-s.result))

pub int_to_float-result-then-n-s : goal.int_to_float-result-then-n-s
int_to_float-result-then-n-s c = exact _ (le_of_lt (kept_few (to_bits binary32 c.args.x) c.behind-s.result))

pub overflow_add-result : goal.overflow_add-result
overflow_add-result c = omega (arith, kept_few (to_bits binary32 c.args.x) c.behind-s.result)

pub int_to_float-result-else-n-s : goal.int_to_float-result-else-n-s
int_to_float-result-else-n-s c = exact _ (omega (arith, kept_few (to_bits binary32 c.args.x) c.behind-s.result))

pub returns-then-b-lt2147483648 : goal.returns-then-b-lt2147483648
returns-then-b-lt2147483648 c =
    let n = to_bits binary32 c.args.x in
    at c.args.x _ (sym c.well_formed.0.1) (floor_plus n c.behind-s.result c.if-e-ge150.false c.behind-s.ensures c.if-b-lt2147483648.true)

pub returns-then-n-s : goal.returns-then-n-s
returns-then-n-s c =
    let n = to_bits binary32 c.args.x in
    let w = sym c.well_formed.0.1 in
    at c.args.x _ w (floor_minus_whole n c.behind-s.result c.if-e-ge150.false c.behind-s.ensures c.if-b-lt2147483648.false (bit c.args.x w c.if-x-2.false) (eq-eqb _ _ c.if-n-s.true))

pub returns-else-n-s : goal.returns-else-n-s
returns-else-n-s c =
    let n = to_bits binary32 c.args.x in
    let w = sym c.well_formed.0.1 in
    at c.args.x _ w (floor_minus_rest n c.behind-s.result c.if-e-ge150.false c.behind-s.ensures c.if-b-lt2147483648.false (bit c.args.x w c.if-x-2.false) (ne_eqb _ _ c.if-n-s.false))
