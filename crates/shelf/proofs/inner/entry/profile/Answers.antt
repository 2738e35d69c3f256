use borrow.Author.Rules.{rules}
use Rattle.shelf.specs.Shelf.{profile}
use Rattle.shelf.proofs.inner.entry.profile.Goals as goal

pub returns : goal.returns
unfolding profile
returns c = search rules
