-- The loop's invariant: column j is in the sums of the rows before i.
use Rattle.parity.specs.Steps.Runs.{Sums}
use Rattle.parity.proofs.sums.add_column.Given as goal

abbrev pub invariant-loop-i : goal.invariant-loop-i
invariant-loop-i l = Sums l.table l.rows l.columns l.z l.word l.j l.i l.sums
