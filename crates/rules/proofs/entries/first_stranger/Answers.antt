use borrow.Author.Rules.{rules}
use Rattle.shelf.specs.Shelf.{tenant, tenant_right}
use Rattle.rules.proofs.entries.first_stranger.Goals as goal

pub returns : goal.returns
returns c = c.first_not.ensures (λ k. tenant_right c.args.private (tenant c.args.octets.now k)) (λ k r l q. search rules)
