-- The loop's invariant: the blocks before r stand in front of the output, up to `at`, and
-- `start` is where block r's own bits begin.
use mathlib.Core.Path.{◌≡◌}
use lib.ListN.{length}
use Rattle.bits.specs.Ranges.{sum_below}
use Rattle.cutting.specs.Plan.{blocks}
use Rattle.cutting.specs.Cutting.{own_start}
use Rattle.coding.specs.Allocation.{share}
use Rattle.coding.specs.Joining.{block_sent}
use Rattle.coding.proofs.Joining.{Joined}
use Rattle.coding.proofs.sending.send_blocks.Given as goal

abbrev pub invariant-loop-r : goal.invariant-loop-r
invariant-loop-r l =
    (l.start ≡ own_start l.profile l.terms.edition l.plan.bits l.r) × (length l.word ≡ length l.initial.word)
    × (l.at ≡ sum_below l.r (λ i. (share l.terms l.g.0 (blocks l.profile l.terms.edition l.plan.bits) i).0))
    × Joined (block_sent l.profile l.plan.bits l.bits l.terms l.g.0) l.initial.out l.r l.at l.out
