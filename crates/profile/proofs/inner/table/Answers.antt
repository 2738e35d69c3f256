use Rattle.profile.proofs.Accepted.{tests_passed}
use Rattle.profile.proofs.inner.table.Goals as goal

pub table-requires : goal.table-requires
table-requires c = ((tests_passed c.args.profile.now c.requires.0).0, c.requires.1)
