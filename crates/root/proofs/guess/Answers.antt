-- `root::guess` meets its contract: nothing wraps and the result is small, since each product is that of its factors' bounds at most, whatever the table holds.
use Prim.Native.Nat.{◌-◌, ◌*◌, ◌/◌, ◌%◌, ◌≤◌}
use native.Mathlib.Nat.{mul-le-mul}
use native.Mathlib.Omega.{arith}
use Rattle.root.proofs.guess.Goals as goal

square : (c : goal.After-part-t) → c.args.z % 65536 * (c.args.z % 65536) ≤ 65535 * 65535
square c = mul-le-mul {n₁ = c.args.z % 65536} {m₁ = c.args.z % 65536} {n₂ = 65535} {m₂ = 65535} (omega arith) (omega arith)

line : (c : goal.After-part-t) → c.part-t.result / 8796093022208 * (c.args.z % 65536) ≤ 2097151 * 65535
line c = mul-le-mul {n₁ = c.part-t.result / 8796093022208} {m₁ = c.args.z % 65536} {n₂ = 2097151} {m₂ = 65535} (omega arith) (omega arith)

curve : (c : goal.After-part-t) → c.part-t.result % 8192 * (65535 - c.args.z % 65536 * (c.args.z % 65536) / 65536) ≤ 8191 * 65535
curve c = mul-le-mul {n₁ = c.part-t.result % 8192} {m₁ = 65535 - c.args.z % 65536 * (c.args.z % 65536) / 65536} {n₂ = 8191} {m₂ = 65535} (omega arith) (omega arith)

pub overflow_mul-s : goal.overflow_mul-s
overflow_mul-s c = omega (arith, square c)

pub overflow_sub-s : goal.overflow_sub-s
overflow_sub-s c = omega (arith, square c)

pub overflow_mul-result-2 : goal.overflow_mul-result-2
overflow_mul-result-2 c = omega (arith, line c)

pub overflow_add-result : goal.overflow_add-result
overflow_add-result c = omega (arith, line c)

pub overflow_mul-result-3 : goal.overflow_mul-result-3
overflow_mul-result-3 c = omega (arith, curve c)

pub overflow_add-result-2 : goal.overflow_add-result-2
overflow_add-result-2 c = omega (arith, line c, curve c)

pub returns : goal.returns
returns c = omega (arith, line c, curve c)
