-- The loop's invariant: the first k places are added.
use Rattle.parity.specs.Steps.Runs.{Run, added}
use Rattle.parity.proofs.run.xor_run.Given as goal

abbrev pub invariant-loop-k : goal.invariant-loop-k
invariant-loop-k l = Run l.k (added l.initial.acc l.at l.g l.from) l.initial.acc l.at l.acc
