-- its table passes the test.
use borrow.Author.Rules.{rules}
use Rattle.bits.specs.Bits.{digits}
use Rattle.bits.proofs.Words.{fours_by_test}
use Rattle.bits.proofs.inner.unpack.Goals as goal

pub unpack_by-requires : goal.unpack_by-requires
unfolding digits
unpack_by-requires c = (fours_by_test _ tt, search rules)
