-- The loop's invariant: the sum is that over the places before one.
use mathlib.Core.Path.{◌≡◌}
use Prim.Native.Nat.{◌<◌}
use Rattle.checking.proofs.Elements.{summed}
use Rattle.checking.proofs.plain.row_sum.Given as goal

abbrev pub invariant-loop-place : goal.invariant-loop-place
invariant-loop-place l = (l.sum < 2) × (l.sum ≡ summed l.table l.columns l.z l.word l.row l.place)
