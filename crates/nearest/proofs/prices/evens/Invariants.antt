-- The loop's invariant: the registers before 2j have their outputs.
use Rattle.nearest.specs.Steps.Rows.{Evens}
use Rattle.nearest.proofs.prices.evens.Given as goal

abbrev pub invariant-loop-j : goal.invariant-loop-j
invariant-loop-j l = Evens l.j l.t
