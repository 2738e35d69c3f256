-- The loop's invariant: `step` columns are laid, and the group holds the sum of so many
-- rows.
use mathlib.Core.Path.{◌≡◌}
use lib.ListN.{length}
use Rattle.parity.specs.Steps.Runs.{Together, Groups, rows_above}
use Rattle.parity.proofs.stairs.lay_next.Given as goal

abbrev pub invariant-loop-step : goal.invariant-loop-step
invariant-loop-step l = (length l.group ≡ 96) × Together l.sums l.step l.group × Groups l.z l.step (rows_above l.sums) l.initial.word l.at l.word
