-- The loop's invariant: the columns before kb + n are laid and are in the sums.
use Prim.Native.Nat.{◌+◌}
use Rattle.parity.specs.Steps.Grouped.{Begun}
use Rattle.parity.specs.Steps.Runs.{Sums}
use Rattle.parity.proofs.extension.lay_later.Given as goal

abbrev pub invariant-loop-n : goal.invariant-loop-n
invariant-loop-n l = Begun l.table l.kb l.m l.columns l.z l.initial.word l.n l.word × Sums l.table l.rows l.columns l.z l.word (l.kb + l.n) 0 l.sums
