-- The loop's invariant: the first k places are written.
use Rattle.parity.specs.Steps.Runs.{Run, copied}
use Rattle.parity.proofs.run.copy_bits.Given as goal

abbrev pub invariant-loop-k : goal.invariant-loop-k
invariant-loop-k l = Run l.k (copied l.g l.from) l.initial.out l.at l.out
