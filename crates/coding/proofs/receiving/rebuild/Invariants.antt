-- The loop's invariant: the blocks before r were tested, and their own bits gathered.
use mathlib.Core.Path.{◌≡◌}
use lib.ListN.{length}
use Rattle.coding.proofs.Rebuilt.{Walk}
use Rattle.coding.proofs.receiving.rebuild.Given as goal

abbrev pub invariant-loop-r : goal.invariant-loop-r
invariant-loop-r l =
    (length l.word ≡ length l.initial.word) × Walk l.profile l.terms l.bits l.plan.bits l.initial.room l.r l.start l.at l.room
