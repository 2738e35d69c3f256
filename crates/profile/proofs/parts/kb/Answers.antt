use borrow.Author.Rules.{rules}
use Rattle.profile.specs.Record.{kb}
use Rattle.profile.proofs.parts.kb.Goals as goal

pub returns : goal.returns
unfolding kb
returns c = search rules
