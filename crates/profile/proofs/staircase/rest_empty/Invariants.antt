-- The loop's invariant: `empty` says whether every entry passed is empty.
use mathlib.Core.Path.{◌≡◌}
use lib.Dec.{eqb}
use lib.ListN.{get_or}
use Rattle.bits.specs.Ranges.{all_below}
use Rattle.profile.specs.Record.{empty}
use Rattle.profile.proofs.staircase.rest_empty.Given as goal

abbrev pub invariant-loop-e : goal.invariant-loop-e
invariant-loop-e l = l.empty ≡ all_below l.e-index (λ k. eqb (get_or l.e-items k 0) empty)
