-- What is left over is less than what it was divided by.
use Rattle.console.proofs.counted.common_divisor.Given as goal

abbrev pub invariant-loop-small : goal.invariant-loop-small
invariant-loop-small l = Unit

abbrev pub decreases-loop-small : goal.decreases-loop-small
decreases-loop-small l = l.small
