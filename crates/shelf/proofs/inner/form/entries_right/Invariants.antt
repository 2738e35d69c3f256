-- The loop's invariant: every entry passed is right, and what is carried is what is due.
use mathlib.Core.Path.{◌≡◌}
use mathlib.Core.Bool.{true}
use Prim.Native.Nat.{ℕ, ◌<◌}
use Rattle.shelf.specs.Shelf.{offset_due}
use Rattle.shelf.specs.Steps.Walking.{least_pair, entry_right}
use Rattle.shelf.proofs.inner.form.entries_right.Given as goal

abbrev pub invariant-loop-k : goal.invariant-loop-k
invariant-loop-k l =
    (l.least ≡ least_pair l.shelf l.k) × (l.due ≡ offset_due l.shelf l.k) × ((j : ℕ) → j < l.k → entry_right l.shelf j ≡ true)
