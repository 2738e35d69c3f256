use borrow.Author.Rules.{rules}
use Rattle.shelf.specs.Shelf.{rises}
use Rattle.rules.proofs.entries.first_fall.Goals as goal

pub returns : goal.returns
returns c = c.first_not.ensures (rises c.args.octets.now) (λ k r l q. search rules)
