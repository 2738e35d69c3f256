use mathlib.Core.Path.{◌≡◌, refl}
use mathlib.Core.Bool.{true, false}
use native.Mathlib.Omega.{arith}
use lib.ListN.{length}
use Rattle.bits.specs.Numbers.{answered}
use Rattle.profile.specs.Record.{t, offset_due, ends_right}
use Rattle.rules.specs.Rules.{or_else}
use Rattle.rules.specs.Places.{place_of, smaller, table_row, table_column, record_table, record_row, record_column, record_at}
use Rattle.rules.proofs.Records.{small, shape-passed, ends-right, ends_wrong}
use Rattle.rules.proofs.tables.of_end.Goals as goal

pub offset_due-end-requires : goal.offset_due-end-requires
offset_due-end-requires c =
    let a = c.args in
    let R = a.octets.now in
    let few = small R c.requires.zs.pairs.sizes in
    (few.few, few.short, few.few)

pub returns-then-size-end : goal.returns-then-size-end
unfolding answered or_else offset_due place_of table_row table_column record_table record_row record_column record_at
returns-then-size-end c =
    let a = c.args in
    let R = a.octets.now in
    let n = c.requires.zs.pairs.sizes in
    let wrong : ends_right R ≡ false = ends_wrong R (λ e. c.if-size-end.true (cc (e, c.offset_due-end.ensures, n.t_is, n.size_is))) in
    let at : c.smaller.result ≡ smaller (length R) (offset_due R (t R)) =
    cc (c.smaller.ensures.0, c.offset_due-end.ensures, n.t_is, n.size_is) in
    rw c.of_whole.ensures (
    record { first = rw wrong; table_is = refl; row_is = refl; column_is = refl; at_is = at; inside = omega (arith, c.smaller.ensures.1) }
    )

pub of_shifts-requires : goal.of_shifts-requires
of_shifts-requires c =
    let a = c.args in
    let R = a.octets.now in
    let z = c.requires.zs in
    let n = z.pairs.sizes in
    let right : ends_right R ≡ true = ends-right R (cc (c.if-size-end.false, c.offset_due-end.ensures, n.t_is, n.size_is)) in
    record { sizes = n; shape = shape-passed R n.front z.range z.rising c.requires.links right }

pub returns : goal.returns
unfolding answered or_else
returns c =
    let a = c.args in
    let R = a.octets.now in
    let n = c.requires.zs.pairs.sizes in
    let right : ends_right R ≡ true = ends-right R (cc (c.if-size-end.false, c.offset_due-end.ensures, n.t_is, n.size_is)) in
    let told = c.of_shifts.ensures in
    record {
      first = rw right told.first;
      table_is = told.table_is;
      row_is = told.row_is;
      column_is = told.column_is;
      at_is = told.at_is;
      inside = told.inside;
    }
