use mathlib.Core.Path.{refl, sym, ◌∙◌}
use Prim.Native.Nat.{◌-◌}
use native.Mathlib.Omega.{arith}
use borrow.Author.Tests.{eq-eqb, ne_eqb}
use Rattle.bits.specs.Numbers.{answered}
use Rattle.profile.specs.Steps.Walk.{column}
use Rattle.profile.proofs.Walk.{row-stands}
use Rattle.rules.specs.Places.{place_of, table_row, table_column}
use Rattle.rules.proofs.Places.{row-none, row-second, row-middle}
use Rattle.rules.proofs.Columns.{between_none, between-two, between-one, middle-right, middle_wrong, top_at, row_at}
use Rattle.rules.proofs.stairs.of_between.Goals as goal

pub returns-in_default : goal.returns-in_default
unfolding answered place_of table_row table_column
returns-in_default c =
    let a = c.args in
    let T = a.table.now in
    let none = c.in_default.ensures in
    let m = c.requires.m_low in
    λ x. record {
      first = rw (between_none a.m (column T a.columns a.kb) (a.m - 1) none (omega arith));
      row_is = row-none T a.kb a.m x a.columns (a.m - 1) none (omega arith);
      column_is = refl;
      inside = omega (arith, row-stands c.requires 1 (omega (arith, c.requires.m_low)));
      late = omega arith;
    }

pub returns-in-Some-next_filled : goal.returns-in-Some-next_filled
unfolding answered place_of table_row table_column
returns-in-Some-next_filled c =
    let a = c.args in
    let T = a.table.now in
    let C = column T a.columns a.kb in
    let one = c.in-Some.ensures in
    let two = c.in-Some-next_filled.ensures in
    let middle = c.in-Some.middle in
    let second = c.in-Some-next_filled.second in
    λ x. record {
      first = rw (between-two a.m C middle second one.0 one.1 two.0 two.1);
      row_is = row-second T a.kb a.m x a.columns middle second one.0 one.1 two.0;
      column_is = refl;
      inside = omega (arith, row-stands c.requires second (omega (arith, two.1)));
      late = omega arith;
    }

pub returns-then-table-kb : goal.returns-then-table-kb
unfolding answered place_of table_row table_column
returns-then-table-kb c =
    let a = c.args in
    let T = a.table.now in
    let C = column T a.columns a.kb in
    let one = c.in-Some.ensures in
    let two = c.in_default-next_filled.ensures in
    let middle = c.in-Some.middle in
    let single = between-one a.m C middle (a.m - 1) one.0 one.1 two (omega (arith, one.1)) in
    let unequal = ne_eqb (C 0) (C (a.m - 1)) (λ e. c.if-table-kb.true (sym (top_at T a.kb a.columns) ∙ e ∙ row_at T a.kb a.columns (a.m - 1))) in
    λ x. record {
      first = rw (single, unequal);
      row_is = refl;
      column_is = refl;
      inside = omega (arith, row-stands c.requires (a.m - 1) (omega (arith, one.1)));
      late = omega arith;
    }

pub returns-then-first_entry-ne-MIDDLE : goal.returns-then-first_entry-ne-MIDDLE
unfolding answered place_of table_row table_column
returns-then-first_entry-ne-MIDDLE c =
    let a = c.args in
    let T = a.table.now in
    let C = column T a.columns a.kb in
    let one = c.in-Some.ensures in
    let two = c.in_default-next_filled.ensures in
    let middle = c.in-Some.middle in
    let single = between-one a.m C middle (a.m - 1) one.0 one.1 two (omega (arith, one.1)) in
    let equal = eq-eqb (C 0) (C (a.m - 1)) (top_at T a.kb a.columns ∙ c.if-table-kb.false ∙ sym (row_at T a.kb a.columns (a.m - 1))) in
    let wrong = middle_wrong a.m C middle one.0 one.1 (λ e. c.if-first_entry-ne-MIDDLE.true (c.first_entry.ensures ∙ e)) in
    λ x. record {
      first = rw (single, equal, wrong);
      row_is = row-middle T a.kb a.m x a.columns middle one.0;
      column_is = refl;
      inside = omega (arith, row-stands c.requires middle (omega (arith, one.1)));
      late = omega arith;
    }

pub returns : goal.returns
unfolding answered
returns c =
    let a = c.args in
    let T = a.table.now in
    let C = column T a.columns a.kb in
    let one = c.in-Some.ensures in
    let two = c.in_default-next_filled.ensures in
    let middle = c.in-Some.middle in
    let single = between-one a.m C middle (a.m - 1) one.0 one.1 two (omega (arith, one.1)) in
    let equal = eq-eqb (C 0) (C (a.m - 1)) (top_at T a.kb a.columns ∙ c.if-table-kb.false ∙ sym (row_at T a.kb a.columns (a.m - 1))) in
    let right =
    middle-right a.m C middle (a.m - 1) one.0 one.1 two (omega (arith, one.1)) (sym c.first_entry.ensures ∙ c.if-first_entry-ne-MIDDLE.false) in
    λ x. rw (single, equal, right)
