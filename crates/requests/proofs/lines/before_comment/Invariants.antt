-- The loop's invariant: `at` is the place of a `#`, or the end. Each turn looks behind it.
use Rattle.std.proofs.Common.{◌-◌, ◌≤◌, length}
use Rattle.requests.proofs.lines.before_comment.Given as goal

abbrev pub invariant-loop-at : goal.invariant-loop-at
invariant-loop-at l = l.at ≤ length l.line

abbrev pub decreases-loop-at : goal.decreases-loop-at
decreases-loop-at l = length l.line - l.at
