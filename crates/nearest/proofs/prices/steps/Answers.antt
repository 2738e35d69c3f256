use Rattle.nearest.proofs.Loops.{heard-none}
use Rattle.nearest.proofs.prices.steps.Goals as goal

pub loop-k-init : goal.loop-k-init
loop-k-init c = heard-none _ _
