-- The loop's invariant: the sums hold the columns before j.
use mathlib.Core.Path.{◌≡◌}
use lib.ListN.{length}
use Rattle.bits.specs.Bits.{AreBits}
use Rattle.parity.specs.Steps.Runs.{Sums}
use Rattle.parity.proofs.sums.add_columns.Given as goal

abbrev pub invariant-loop-j : goal.invariant-loop-j
invariant-loop-j l = (length l.g ≡ 192) × AreBits l.g × Sums l.table l.rows l.columns l.z l.word l.j 0 l.sums
