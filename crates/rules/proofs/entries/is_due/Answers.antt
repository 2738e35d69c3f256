use Rattle.shelf.specs.Shelf.{chained}
use Rattle.rules.proofs.entries.is_due.Goals as goal

pub returns : goal.returns
unfolding chained
returns c = cc
