use borrow.Author.Rules.{rules}
use Rattle.profile.specs.Steps.Walk.{next_right}
use Rattle.rules.proofs.stairs.row_off.Goals as goal

pub returns : goal.returns
returns c = c.first_not.ensures (λ row. next_right c.args.table.now c.args.kb c.args.columns row c.args.i) (λ k r l q. search rules)
