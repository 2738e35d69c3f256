use Rattle.cutting.proofs.PlanFields.{some-fields}
use Rattle.block.proofs.inner.start.Goals as goal

pub kind-kind-requires : goal.kind-kind-requires
kind-kind-requires c = (some-fields c.args.profile.now c.args.plan c.requires.0).accepted
