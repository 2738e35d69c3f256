use Rattle.rules.proofs.Staircase.{table-spotted, table-unspotted}
use Rattle.rules.proofs.stairs.of_table.Goals as goal

pub returns-in-Some : goal.returns-in-Some
returns-in-Some c =
    let a = c.args in
    table-spotted a.table.now a.kb a.m a.x a.columns c.in-Some.spot (c.in-Some.ensures a.x)

pub returns : goal.returns
returns c =
    let a = c.args in
    table-unspotted a.table.now a.kb a.m a.x a.columns c.of_columns.result (c.in_default.ensures a.x) c.of_columns.ensures
