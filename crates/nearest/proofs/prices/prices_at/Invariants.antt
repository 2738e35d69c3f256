-- The loop's invariant: the first j prices stand.
use Rattle.nearest.specs.Steps.Rows.{Priced}
use Rattle.nearest.proofs.prices.prices_at.Given as goal

abbrev pub invariant-loop-j : goal.invariant-loop-j
invariant-loop-j l = Priced l.h l.j l.t
