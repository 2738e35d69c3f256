use mathlib.Core.Path.{◌≡◌}
use mathlib.Core.Bool.{true, false}
use Prim.Native.Nat.{◌/◌, ◌%◌}
use native.Mathlib.Nat.{div-add-mod'}
use native.Mathlib.Omega.{arith}
use Rattle.std.specs.Prelude.{Some}
use Rattle.rules.specs.Faults.{wrong}
use Rattle.bits.specs.Numbers.{answered}
use Rattle.bits.specs.Ranges.{all_below}
use Rattle.profile.specs.Record.{t, table_right}
use Rattle.rules.specs.Rules.{or_else, first_not}
use Rattle.rules.proofs.Firsts.{first-some-not}
use Rattle.rules.proofs.Records.{small}
use Rattle.rules.proofs.Places.{told-entry, over-table, over-row, over-column}
use Rattle.rules.proofs.tables.of_shifts.Goals as goal

pub nonzero_div-k : goal.nonzero_div-k
nonzero_div-k c =
    omega (arith, (small c.args.octets.now c.requires.sizes).wide)

pub nonzero_rem-k : goal.nonzero_rem-k
nonzero_rem-k c =
    omega (arith, (small c.args.octets.now c.requires.sizes).wide)

pub told-requires : goal.told-requires
told-requires c =
    let few = small c.args.octets.now c.requires.sizes in
    let f = c.in-Some.ensures in
    (few.few, few.short, omega (arith, few.few, f.0), omega (arith, div-add-mod' c.in-Some.k c.args.s.columns, f.2.0, c.requires.sizes.size_is))

pub returns-in-Some : goal.returns-in-Some
unfolding answered or_else
returns-in-Some c =
    let a = c.args in
    let R = a.octets.now in
    let n = c.requires.sizes in
    let f = c.in-Some.ensures in
    let i = c.in-Some.i in
    let k = c.in-Some.k in
    let some : all_below (t R) (table_right R) ≡ false = rw (← n.t_is) (first-some-not a.s.t (table_right R) f.1 f.0) in
    let is : i ≡ first_not (t R) (table_right R) = rw (← n.t_is) f.1 in
    let placed = div-add-mod' k a.s.columns in
    let told =
    told-entry R n c.requires.shape 15 i (k / a.s.columns) (k % a.s.columns) (wrong (Some c.told.result)) c.told.ensures (omega arith) f.0
    (omega (arith, placed, f.2.0, n.size_is)) (over-table R i is) (cc (f.2.1, n.columns_is, over-row R i is)) (cc (f.2.1, n.columns_is, over-column R i is)) in
    record {
      first = rw some told.first;
      table_is = told.table_is;
      row_is = told.row_is;
      column_is = told.column_is;
      at_is = told.at_is;
      inside = told.inside;
    }

pub returns : goal.returns
unfolding answered or_else
returns c =
    let a = c.args in
    let R = a.octets.now in
    let n = c.requires.sizes in
    let all : all_below (t R) (table_right R) ≡ true =
    rw (← n.t_is) c.in_default.ensures in
    let told = c.of_stairs.ensures in
    record {
      first = rw all told.first;
      table_is = told.table_is;
      row_is = told.row_is;
      column_is = told.column_is;
      at_is = told.at_is;
      inside = told.inside;
    }
