use Rattle.profile.specs.Steps.Walk.{before_right}
use Rattle.profile.proofs.staircase.before_right.Goals as goal

pub returns-then-n-eq0 : goal.returns-then-n-eq0
unfolding before_right
returns-then-n-eq0 c = rw c.if-n-eq0.true
