-- The loop's invariant: it is the least of the keys so far.
use Prim.Native.Nat.{◌+◌}
use Rattle.nearest.specs.Steps.Rows.{Least}
use Rattle.nearest.proofs.rows.least_of.Given as goal

abbrev pub invariant-loop-key : goal.invariant-loop-key
invariant-loop-key l = Least l.keys (l.key-index + 1) l.v
