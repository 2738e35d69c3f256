-- a word has at most 32 groups of 81 places.
use native.Mathlib.Nat.{mul-le-mul}
use native.Mathlib.Omega.{arith}
use Rattle.hosted.proofs.check.put_size.Goals as goal

pub overflow_mul-bits : goal.overflow_mul-bits
overflow_mul-bits c = omega (arith, mul-le-mul c.columns.ensures.2 c.z-z.ensures.2)
