use borrow.Author.Rules.{rules}
use Rattle.profile.specs.Record.{offset}
use Rattle.profile.proofs.parts.offset.Goals as goal

pub returns : goal.returns
unfolding offset
returns c = search rules
