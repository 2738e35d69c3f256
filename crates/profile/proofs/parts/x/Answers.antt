use borrow.Author.Rules.{rules}
use Rattle.profile.specs.Record.{x}
use Rattle.profile.proofs.parts.x.Goals as goal

pub returns : goal.returns
unfolding x
returns c = search rules
