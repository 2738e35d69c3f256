-- The loop's invariant: `agree` says whether the places up to k do.
use mathlib.Core.Path.{◌≡◌}
use Prim.Native.Nat.{◌+◌, ◌-◌}
use lib.Dec.{eqb}
use lib.ListN.{get_or}
use Rattle.bits.specs.Ranges.{all_below}
use Rattle.matching.proofs.inner.copies_agree.Given as goal

abbrev pub invariant-loop-k : goal.invariant-loop-k
invariant-loop-k l = l.agree ≡ all_below (l.k - l.first) (λ j. eqb (get_or l.s (l.first + j) 0) (get_or l.s j 0))
