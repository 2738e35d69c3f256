-- The loop's invariant: the place goes on from `from` and stays within the octets.
use Rattle.std.proofs.Common.{◌-◌, ◌≤◌, length}
use Rattle.text.proofs.octets.pass.Given as goal

abbrev pub invariant-loop-stretch : goal.invariant-loop-stretch
invariant-loop-stretch g l = (l.from ≤ l.at) × (l.at ≤ length l.s)

abbrev pub decreases-loop-stretch : goal.decreases-loop-stretch
decreases-loop-stretch g l = length l.s - l.at
