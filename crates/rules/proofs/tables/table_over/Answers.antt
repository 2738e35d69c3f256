use borrow.Author.Rules.{rules}
use Rattle.profile.specs.Record.{table_right}
use Rattle.rules.specs.Steps.Sizes.{OverIn}
use Rattle.rules.proofs.Firsts.{first-with}
use Rattle.rules.proofs.tables.table_over.Goals as goal

pub returns : goal.returns
returns c =
    let R = c.args.octets.now in
    first-with _ c.args.s.t (table_right R) (OverIn R) c.first_found.result c.first_found.ensures (λ i r l q. search rules)
