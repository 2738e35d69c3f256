use Rattle.cutting.specs.Steps.Plans.{plan_for}
use Rattle.cutting.proofs.cut.cutting.Goals as goal

pub returns : goal.returns
unfolding plan_for
returns c = cc
