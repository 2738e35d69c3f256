-- The loop's invariant: the front is repeated up to k.
use Rattle.matching.specs.Steps.Places.{Repeated}
use Rattle.matching.proofs.marks.repeat.Given as goal

abbrev pub invariant-loop-k : goal.invariant-loop-k
invariant-loop-k l = Repeated l.front l.k l.initial.out l.out
