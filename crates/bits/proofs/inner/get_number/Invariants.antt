-- The loop's invariant: the bits left, read after r, give what all of them give.
use mathlib.Core.Path.{◌≡◌}
use Prim.Native.Nat.{◌-◌}
use lib.ListN.{length, drop}
use Rattle.bits.specs.Bits.{read_on, value_of}
use Rattle.bits.proofs.Digits.{Room}
use Rattle.bits.proofs.inner.get_number.Given as goal

abbrev pub invariant-loop-bit : goal.invariant-loop-bit
invariant-loop-bit l = Room l.r (length l.bit-items - l.bit-index) × (read_on l.r (drop l.bit-index l.bit-items) ≡ value_of l.bit-items)
