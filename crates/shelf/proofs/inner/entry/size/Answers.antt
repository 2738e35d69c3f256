use borrow.Author.Rules.{rules}
use Rattle.shelf.specs.Shelf.{size}
use Rattle.shelf.proofs.inner.entry.size.Goals as goal

pub returns : goal.returns
unfolding size
returns c = search rules
