-- The loops' invariants: the bits of the columns so far, and of the rows so far of the column that is read, are collected.
use mathlib.Core.Path.{◌≡◌}
use Prim.Native.Nat.{◌<◌}
use lib.ListN.{get_or}
use Rattle.control.specs.Steps.Order.{before, spot, Threes}
use Rattle.control.proofs.Loops.{Column}
use Rattle.control.proofs.streams.collect.Given as goal

abbrev pub invariant-loop-c : goal.invariant-loop-c
invariant-loop-c l = (l.n ≡ before l.d l.c-index) × Threes l.d (λ k. get_or l.streams (spot l.d k) 0) l.n l.fn.out l.out

abbrev pub invariant-loop-p : goal.invariant-loop-p
invariant-loop-p l = Column l.d l.c-index l.p l.n × (l.p < l.d → l.n < l.d) × Threes l.d (λ k. get_or l.streams (spot l.d k) 0) l.n l.fn.out l.out
