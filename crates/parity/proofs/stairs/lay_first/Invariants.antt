-- The loop's invariant: the group holds the sum of the rows before i.
use mathlib.Core.Path.{◌≡◌}
use lib.ListN.{length}
use Rattle.parity.specs.Steps.Runs.{Together}
use Rattle.parity.proofs.stairs.lay_first.Given as goal

abbrev pub invariant-loop-i : goal.invariant-loop-i
invariant-loop-i l = (length l.group ≡ 96) × Together l.sums l.i l.group
