-- the generator is 24B's.
use Rattle.blocksum.proofs.inner.sum.Goals as goal

pub returns : goal.returns
returns c = c.sum_bits.ensures
