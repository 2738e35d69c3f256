use borrow.Author.Rules.{rules}
use Rattle.shelf.specs.Shelf.{tenant}
use Rattle.shelf.proofs.inner.entry.tenant.Goals as goal

pub returns : goal.returns
unfolding tenant
returns c = search rules
