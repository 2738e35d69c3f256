use Rattle.shelf.specs.Steps.Finding.{entry_found}
use Rattle.shelf.proofs.inner.find.found_at.Goals as goal

pub returns : goal.returns
unfolding entry_found
returns c = cc
