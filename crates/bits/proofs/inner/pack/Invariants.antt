-- The loop's invariant: the octets left, written from i on, give what all of them give.
use mathlib.Core.Path.{◌≡◌}
use Prim.Native.Nat.{◌-◌, ◌*◌}
use lib.ListN.{drop}
use lib.Seq.{sets}
use Rattle.bits.specs.Bits.{packed}
use Rattle.bits.proofs.inner.pack.Given as goal

abbrev pub invariant-loop-i : goal.invariant-loop-i
invariant-loop-i l = sets l.out l.i (packed (l.n - l.i) (drop (8 * l.i) l.bits)) ≡ sets l.initial.out 0 (packed l.n l.bits)
