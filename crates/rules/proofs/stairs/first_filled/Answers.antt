use Rattle.rules.proofs.Staircase.{filled-first}
use Rattle.rules.proofs.stairs.first_filled.Goals as goal

pub returns : goal.returns
returns c = filled-first c.args.table.now c.args.from c.args.n c.requires c.filled_in.result c.filled_in.ensures
