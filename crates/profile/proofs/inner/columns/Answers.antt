use Rattle.profile.proofs.Accepted.{accepted-shape}
use Rattle.profile.proofs.inner.columns.Goals as goal

pub columns-requires : goal.columns-requires
columns-requires c = (accepted-shape c.args.profile.now c.requires).right
