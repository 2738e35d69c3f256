use borrow.Author.Rules.{rules}
use Rattle.profile.specs.Record.{z}
use Rattle.profile.proofs.parts.z.Goals as goal

pub returns : goal.returns
unfolding z
returns c = search rules
