use borrow.Author.Rules.{rules}
use Rattle.shelf.specs.Shelf.{chained}
use Rattle.rules.proofs.entries.first_loose.Goals as goal

pub returns : goal.returns
returns c = c.first_not.ensures (chained c.args.octets.now) (λ k r l q. search rules)
