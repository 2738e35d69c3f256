use Rattle.profile.specs.Record.{z}
use Rattle.rules.proofs.pairs.is_in_range.Goals as goal

pub returns : goal.returns
unfolding z
returns c = cc
