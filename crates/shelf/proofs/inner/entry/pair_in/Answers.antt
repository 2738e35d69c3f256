use borrow.Author.Rules.{rules}
use Rattle.shelf.specs.Steps.Walking.{pair_in}
use Rattle.shelf.proofs.inner.entry.pair_in.Goals as goal

pub returns : goal.returns
unfolding pair_in
returns c = search rules
