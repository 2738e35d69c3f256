-- The loops' invariants: the bits of the columns so far, and of the rows so far of the column that is read, stand at their places.
use mathlib.Core.Path.{◌≡◌}
use Prim.Native.Nat.{◌<◌}
use Rattle.control.specs.Steps.Order.{before, Scattered}
use Rattle.control.proofs.Loops.{Column}
use Rattle.control.proofs.streams.put_back.Given as goal

abbrev pub invariant-loop-c : goal.invariant-loop-c
invariant-loop-c l = (l.n ≡ before l.d l.c-index) × Scattered l.d l.bits l.n l.fn.out l.out

abbrev pub invariant-loop-p : goal.invariant-loop-p
invariant-loop-p l = Column l.d l.c-index l.p l.n × (l.p < l.d → l.n < l.d) × Scattered l.d l.bits l.n l.fn.out l.out
