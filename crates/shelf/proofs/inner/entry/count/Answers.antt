use borrow.Author.Rules.{rules}
use Rattle.shelf.specs.Shelf.{count}
use Rattle.shelf.proofs.inner.entry.count.Goals as goal

pub returns : goal.returns
unfolding count
returns c = search rules
