use mathlib.Core.Path.{◌≡◌, refl, sym, ap, ◌∙◌}
use mathlib.Core.Bool.{true, false}
use native.Mathlib.Omega.{arith}
use Rattle.bits.specs.Numbers.{answered}
use Rattle.bits.specs.Ranges.{all_below}
use Rattle.profile.specs.Record.{t}
use Rattle.profile.proofs.Shape.{header_is}
use Rattle.bits.proofs.Ranges.{all-at}
use Rattle.rules.specs.Rules.{or_else, first_not, linked}
use Rattle.rules.specs.Places.{place_of, table_row, table_column, record_table, record_row, record_column, record_at}
use Rattle.rules.proofs.Firsts.{first-fails, first-before, first-some-not}
use Rattle.rules.proofs.pairs.of_offsets.Goals as goal

pub returns-then-i-eq0 : goal.returns-then-i-eq0
unfolding answered or_else place_of table_row table_column record_table record_row record_column record_at
returns-then-i-eq0 c =
    let a = c.args in
    let R = a.octets.now in
    let first : linked R 0 ≡ false =
    ap (linked R) (sym c.if-i-eq0.true) ∙ first-fails a.s.t (linked R) c.in-Some.ensures.1 c.in-Some.ensures.0 in
    rw c.of_whole.ensures (
    record {
      first = rw first;
      table_is = refl;
      row_is = refl;
      column_is = refl;
      at_is = refl;
      inside = omega (arith, c.requires.pairs.room, c.in-Some.ensures.0);
    }
    )

pub returns-in-Some : goal.returns-in-Some
unfolding answered or_else place_of table_row table_column record_table record_row record_column record_at
returns-in-Some c =
    let a = c.args in
    let R = a.octets.now in
    let n = c.requires.pairs.sizes in
    let first : linked R 0 ≡ true = first-before a.s.t (linked R) c.in-Some.ensures.1 0 (omega arith) (omega (arith, c.in-Some.ensures.0)) in
    let some : all_below (t R) (linked R) ≡ false = rw (← n.t_is) (first-some-not a.s.t (linked R) c.in-Some.ensures.1 c.in-Some.ensures.0) in
    let is : c.in-Some.i ≡ first_not (t R) (linked R) = rw (← n.t_is) c.in-Some.ensures.1 in
    record {
      first = rw (first, some);
      table_is = is;
      row_is = refl;
      column_is = refl;
      at_is = omega (arith, is);
      inside = omega (arith, c.requires.pairs.room, c.in-Some.ensures.0);
    }

pub returns : goal.returns
unfolding answered or_else
returns c =
    let a = c.args in
    let R = a.octets.now in
    let n = c.requires.pairs.sizes in
    let all : all_below (t R) (linked R) ≡ true = rw (← n.t_is) c.in_default.ensures in
    let first : linked R 0 ≡ true = all-at (t R) (linked R) all 0 (omega (arith, (header_is R n.front).t_low)) in
    let told = c.of_end.ensures in
    record {
      first = rw (first, all) told.first;
      table_is = told.table_is;
      row_is = told.row_is;
      column_is = told.column_is;
      at_is = told.at_is;
      inside = told.inside;
    }
