-- The loop's invariant: k of the n octets are laid.
use Rattle.bits.specs.Steps.Places.{Laid}
use Rattle.bits.proofs.inner.lay.Given as goal

abbrev pub invariant-loop-k : goal.invariant-loop-k
invariant-loop-k l = Laid l.s l.from l.k l.initial.out l.at l.out
