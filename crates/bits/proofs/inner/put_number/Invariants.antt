-- The loop's invariant: the digits left, written behind those that are, give what all of them give.
use mathlib.Core.Path.{◌≡◌}
use Prim.Native.Nat.{◌+◌, ◌-◌}
use lib.Seq.{sets}
use Rattle.bits.specs.Bits.{digits}
use Rattle.bits.proofs.inner.put_number.Given as goal

abbrev pub invariant-loop-k : goal.invariant-loop-k
invariant-loop-k l = sets l.out (l.at + l.k) (digits (l.n - l.k) l.x) ≡ sets l.initial.out l.at (digits l.n l.x)
