use borrow.Author.Rules.{rules}
use Rattle.bits.specs.Ranges.{within}
use Rattle.profile.specs.Record.{z}
use Rattle.rules.proofs.pairs.first_out.Goals as goal

pub returns : goal.returns
returns c = c.first_not.ensures (λ i. within 1 81 (z c.args.octets.now i)) (λ k r l q. search rules)
