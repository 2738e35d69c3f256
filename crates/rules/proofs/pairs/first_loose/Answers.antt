use borrow.Author.Rules.{rules}
use Rattle.rules.specs.Rules.{linked}
use Rattle.rules.proofs.pairs.first_loose.Goals as goal

pub returns : goal.returns
returns c = c.first_not.ensures (linked c.args.octets.now) (λ k r l q. search rules)
