-- The loop's invariant: the sums of the rows before one are written.
use Rattle.parity.specs.Steps.Runs.{Run}
use Rattle.checking.specs.Sums.{row_sum}
use Rattle.checking.proofs.plain.put_sums.Given as goal

abbrev pub invariant-loop-row : goal.invariant-loop-row
invariant-loop-row l = Run l.row (row_sum l.table l.columns l.z l.word) l.initial.sum-items 0 l.sum-items
