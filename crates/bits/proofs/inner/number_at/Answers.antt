use borrow.Author.Rules.{rules}
use Rattle.bits.specs.Bits.{number_at}
use Rattle.bits.proofs.inner.number_at.Goals as goal

pub returns : goal.returns
unfolding number_at
returns c = search rules
