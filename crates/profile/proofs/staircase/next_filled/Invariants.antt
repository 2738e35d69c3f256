-- The loop's invariant: no row passed is filled.
use mathlib.Core.Path.{◌≡◌}
use Prim.Native.Nat.{ℕ, ◌≤◌, ◌<◌}
use Rattle.profile.specs.Record.{empty}
use Rattle.profile.specs.Steps.Walk.{column}
use Rattle.profile.proofs.staircase.next_filled.Given as goal

abbrev pub invariant-loop-row : goal.invariant-loop-row
invariant-loop-row l = (k : ℕ) → l.from ≤ k → k < l.row → column l.table l.columns l.kb k ≡ empty
