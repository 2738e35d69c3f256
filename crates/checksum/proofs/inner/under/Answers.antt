use Rattle.checksum.specs.Masked.{under}
use Rattle.checksum.proofs.inner.under.Goals as goal

pub returns : goal.returns
unfolding under
returns c = cc
