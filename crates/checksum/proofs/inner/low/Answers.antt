-- the low bits of `Machine`, at 64 bits.
use Prim.Native.Nat.{◌<◌}
use native.Mathlib.Nat.{mod-lt}
use native.Mathlib.Omega.{arith}
use lib.Pow.{pow_pos, pow_mono}
use Rattle.checksum.proofs.Machine.{ones-some, low_bits}
use Rattle.checksum.proofs.inner.low.Goals as goal

pub overflow_sub-result : goal.overflow_sub-result
overflow_sub-result c = ones-some 64 c.args.w (omega arith)

pub overflow_cast-result-2 : goal.overflow_cast-result-2
overflow_cast-result-2 c =
    let w = c.args.w in
    let h : w < 64 = omega arith in
    rw (low_bits 64 w h c.args.mask) (omega (arith, mod-lt c.args.mask (pow_pos w), pow_mono c.requires))

pub returns : goal.returns
returns c = low_bits 64 c.args.w (omega arith) c.args.mask
