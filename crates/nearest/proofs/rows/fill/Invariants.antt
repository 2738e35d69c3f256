-- The loop's invariant: the row, and all rows up to n steps left, are those of the least costs.
use Prim.Native.Nat.{◌-◌}
use Rattle.nearest.specs.Steps.Trellis.{cost}
use Rattle.nearest.specs.Steps.Rows.{Row, Filled}
use Rattle.nearest.proofs.rows.fill.Given as goal

abbrev pub invariant-loop-n : goal.invariant-loop-n
invariant-loop-n l = Row (cost l.steps) l.initial.row l.n (l.d - l.n) l.row × Filled (cost l.steps) l.initial.row l.d l.n l.costs
