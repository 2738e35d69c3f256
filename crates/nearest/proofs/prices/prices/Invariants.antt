-- The loop's invariant: what is heard before h has its prices.
use Rattle.nearest.specs.Steps.Rows.{Prices}
use Rattle.nearest.proofs.prices.prices.Given as goal

abbrev pub invariant-loop-h : goal.invariant-loop-h
invariant-loop-h l = Prices l.h l.t
