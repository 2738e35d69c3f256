-- The loop's invariant: `end` is at most the length, and each turn goes back to a space before it.
use Rattle.std.proofs.Common.{◌≤◌, length}
use Rattle.text.proofs.options.start_from_end.Given as goal

abbrev pub invariant-loop-space : goal.invariant-loop-space
invariant-loop-space l = l.end ≤ length l.text

abbrev pub decreases-loop-space : goal.decreases-loop-space
decreases-loop-space l = l.end
