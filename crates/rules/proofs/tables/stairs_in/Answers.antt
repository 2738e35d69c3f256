use Rattle.profile.specs.Record.{kb, m, x, columns, table}
use Rattle.rules.specs.Rules.{table_rule}
use Rattle.rules.specs.Steps.Sizes.{SpotOf}
use Rattle.rules.proofs.Records.{stairs-with}
use Rattle.rules.proofs.tables.stairs_in.Goals as goal

pub returns : goal.returns
returns c =
    let R = c.args.octets.now in
    let i = c.args.i in
    let n = c.requires.0.sizes in
    let spot : SpotOf (table R i) (kb R) (m R) (x R) (columns R) (table_rule (table R i) (kb R) (m R) (x R) (columns R)) c.of_table.result =
    rw (← c.table.ensures.same, ← n.kb_is, ← n.m_is, ← n.x_is, ← n.columns_is) c.of_table.ensures in
    stairs-with R i c.of_table.result spot
