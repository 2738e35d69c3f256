-- The loop's invariant: what is heard at the first k steps stands.
use Rattle.nearest.specs.Steps.Rows.{Heard}
use Rattle.nearest.proofs.prices.steps.Given as goal

abbrev pub invariant-loop-k : goal.invariant-loop-k
invariant-loop-k l = Heard l.d l.heard l.k l.t
