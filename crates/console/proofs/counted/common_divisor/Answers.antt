use Prim.Native.Nat.{◌<◌}
use native.Mathlib.Nat.{mod-lt}
use native.Mathlib.Omega.{arith}
use Rattle.console.proofs.counted.common_divisor.Goals as goal

pub loop-small-smaller : goal.loop-small-smaller
loop-small-smaller c =
    let some : 0 < c.loop-small.small = omega arith in
    mod-lt c.loop-small.large some
