-- The loop's invariant: the symbol places of the blocks before r are counted.
use mathlib.Core.Path.{◌≡◌}
use Prim.Native.Nat.{◌*◌, ◌≤◌}
use Rattle.bits.specs.Ranges.{sum_below}
use Rattle.advice.specs.Steps.Counting.{places_for}
use Rattle.advice.proofs.places_for_all.Given as goal

abbrev pub invariant-loop-r : goal.invariant-loop-r
invariant-loop-r l = (l.all ≡ sum_below l.r (places_for l.profile l.plan.bits l.terms)) × (l.all ≤ 4860 * l.r)
