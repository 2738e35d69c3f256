-- The loop's invariant: the states before 2j are done.
use Prim.Native.Nat.{◌*◌}
use Rattle.nearest.specs.Steps.Rows.{Stepped}
use Rattle.nearest.proofs.rows.step_back.Given as goal

abbrev pub invariant-loop-j : goal.invariant-loop-j
invariant-loop-j l = Stepped l.h l.after (2 * l.j) l.row
