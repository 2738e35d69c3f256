-- The loop's invariant: out begins with the best word of the goals that are crossed off, and the key is the least of those left.
use mathlib.Core.Path.{◌≡◌}
use lib.ListN.{length, take, drop}
use Rattle.nearest.specs.Steps.Trellis.{cost, Best}
use Rattle.nearest.specs.Steps.Rows.{Least}
use Rattle.nearest.proofs.Best.{uncrossed}
use Rattle.nearest.proofs.goals.put_nearest.Given as goal

abbrev pub invariant-loop-key : goal.invariant-loop-key
invariant-loop-key l = (length l.out ≡ length l.initial.out) × (drop l.d l.out ≡ drop l.d l.initial.out) × Best (cost l.steps) l.d l.left l.best (take l.d l.out) × Least l.left 64 l.key

abbrev pub decreases-loop-key : goal.decreases-loop-key
decreases-loop-key l = uncrossed l.left
