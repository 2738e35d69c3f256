use borrow.Author.Rules.{rules}
use Rattle.profile.specs.Record.{t}
use Rattle.profile.proofs.parts.t.Goals as goal

pub returns : goal.returns
unfolding t
returns c = search rules
