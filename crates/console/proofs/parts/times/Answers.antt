-- Either number is at most 65,535, so the product is at most their square.
use Prim.Native.Nat.{◌≤◌}
use native.Mathlib.Nat.{mul-le-mul}
use native.Mathlib.Omega.{arith}
use Rattle.console.proofs.parts.times.Goals as goal

pub overflow_mul-result : goal.overflow_mul-result
overflow_mul-result c =
    let a : c.args.a ≤ 65535 = omega arith in
    let b : c.args.b ≤ 65535 = omega arith in
    record { fits = omega (arith, mul-le-mul a b) }

pub returns : goal.returns
returns c =
    let a : c.args.a ≤ 65535 = omega arith in
    let b : c.args.b ≤ 65535 = omega arith in
    omega (arith, mul-le-mul a b)
