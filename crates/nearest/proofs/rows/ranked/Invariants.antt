-- The loop's invariant: the states before s are done.
use Rattle.nearest.specs.Steps.Rows.{Ranked}
use Rattle.nearest.proofs.rows.ranked.Given as goal

abbrev pub invariant-loop-s : goal.invariant-loop-s
invariant-loop-s l = Ranked l.row l.s l.keys
