use borrow.Author.Rules.{rules}
use Rattle.shelf.specs.Shelf.{offset}
use Rattle.shelf.proofs.inner.entry.offset.Goals as goal

pub returns : goal.returns
unfolding offset
returns c = search rules
