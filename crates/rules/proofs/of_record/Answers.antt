use mathlib.Core.Path.{refl}
use native.Mathlib.Omega.{arith}
use lib.ListN.{length}
use Rattle.rules.specs.Faults.{wrong}
use Rattle.rules.specs.Places.{place_of, table_row, table_column, record_table, record_row, record_column, record_at}
use Rattle.rules.proofs.Records.{no_header}
use Rattle.rules.proofs.Places.{record_told}
use Rattle.rules.proofs.of_record.Goals as goal

pub returns-then-size-lt10 : goal.returns-then-size-lt10
unfolding place_of table_row table_column record_table record_row record_column record_at
returns-then-size-lt10 c =
    let R = c.args.octets.now in
    rw c.of_whole.ensures (
    record_told R (record { rule = 1; table = 0; row = 0; column = 0; at = length R })
    (record { first = no_header R c.if-size-lt10.true; table_is = refl; row_is = refl; column_is = refl; at_is = refl; inside = omega arith })
    )

pub returns : goal.returns
returns c =
    let R = c.args.octets.now in
    record_told R (wrong c.of_header.result) c.of_header.ensures
