use borrow.Author.Rules.{rules}
use Rattle.bits.specs.Counts.{ceil}
use Rattle.cutting.proofs.cut.ceil.Goals as goal

pub returns : goal.returns
unfolding ceil
returns c = search rules
