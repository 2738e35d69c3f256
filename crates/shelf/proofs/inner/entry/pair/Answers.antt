use borrow.Author.Rules.{rules}
use Rattle.shelf.specs.Steps.Walking.{pair}
use Rattle.shelf.proofs.inner.entry.pair.Goals as goal

pub returns : goal.returns
unfolding pair
returns c = search rules
