-- The loop's invariant: the bits of the octets left, written behind those that are, give what
-- all of them give.
use mathlib.Core.Path.{◌≡◌}
use Prim.Native.Nat.{◌+◌, ◌*◌}
use lib.ListN.{drop}
use lib.Seq.{sets}
use Rattle.bits.specs.Bits.{unpacked}
use Rattle.bits.proofs.inner.unpack_by.Given as goal

abbrev pub invariant-loop-i : goal.invariant-loop-i
invariant-loop-i l = sets l.out (l.at + 8 * l.i) (unpacked (drop l.i l.octets)) ≡ sets l.initial.out l.at (unpacked l.octets)
