-- The loop's invariant: the bits left, fed to the register, give what all of them give.
use mathlib.Core.Path.{◌≡◌}
use Prim.Native.Nat.{◌^◌, ◌<◌}
use lib.ListN.{drop}
use Rattle.checksum.specs.Steps.Register.{fed}
use Rattle.checksum.proofs.inner.sum_bits.Given as goal

abbrev pub invariant-loop-bit : goal.invariant-loop-bit
invariant-loop-bit l = (l.r < 2 ^ l.w) × (fed l.w l.g l.r (drop l.bit-index l.bits) ≡ fed l.w l.g 0 l.bits)
