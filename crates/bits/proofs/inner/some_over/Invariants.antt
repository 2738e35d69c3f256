-- The loop's invariant: what was found so far, or is found in what is left, is what is found
-- in the whole.
use mathlib.Core.Path.{◌≡◌}
use mathlib.Core.Bool.{◌||◌}
use lib.Dec.{ltb}
use lib.ListN.{drop}
use Rattle.bits.specs.Bits.{some_over}
use Rattle.bits.proofs.inner.some_over.Given as goal

abbrev pub invariant-loop-x : goal.invariant-loop-x
invariant-loop-x l = ltb l.most l.high || some_over l.most (drop l.x-index l.s) ≡ some_over l.most l.s
