use borrow.Author.Rules.{rules}
use Rattle.profile.specs.Record.{kind}
use Rattle.profile.proofs.parts.kind.Goals as goal

pub returns : goal.returns
unfolding kind
returns c = search rules
