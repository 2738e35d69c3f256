use Rattle.profile.proofs.Accepted.{accepted-shape}
use Rattle.profile.proofs.inner.rows.Goals as goal

pub rows-requires : goal.rows-requires
rows-requires c = (accepted-shape c.args.profile.now c.requires).right
