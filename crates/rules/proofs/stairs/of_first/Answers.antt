use mathlib.Core.Path.{refl, sym, ◌∙◌}
use Prim.Native.Nat.{◌-◌}
use native.Mathlib.Omega.{arith}
use Rattle.bits.specs.Numbers.{answered}
use Rattle.profile.specs.Steps.Walk.{column}
use Rattle.profile.proofs.Stairs.{is-filled, is_unfilled}
use Rattle.profile.proofs.Walk.{row-stands}
use Rattle.rules.specs.Places.{place_of, table_row, table_column}
use Rattle.rules.proofs.Columns.{top_at, row_at}
use Rattle.rules.proofs.stairs.of_first.Goals as goal

pub returns-then-table-kb : goal.returns-then-table-kb
unfolding answered place_of table_row table_column
returns-then-table-kb c =
    let a = c.args in
    let T = a.table.now in
    let C = column T a.columns a.kb in
    λ x. record {
      first = rw (is_unfilled (C 0) (top_at T a.kb a.columns ∙ c.if-table-kb.true));
      row_is = refl;
      column_is = refl;
      inside = omega (arith, row-stands c.requires 0 (omega (arith, c.requires.m_low)), c.requires.m_low);
      late = omega arith;
    }

pub returns-then-table-last : goal.returns-then-table-last
unfolding answered place_of table_row table_column
returns-then-table-last c =
    let a = c.args in
    let T = a.table.now in
    let C = column T a.columns a.kb in
    let top = is-filled (C 0) (λ e. c.if-table-kb.false (sym (top_at T a.kb a.columns) ∙ e)) in
    λ x. record {
      first = rw (top, is_unfilled (C (a.m - 1)) (row_at T a.kb a.columns (a.m - 1) ∙ c.if-table-last.true));
      row_is = refl;
      column_is = refl;
      inside = omega (arith, row-stands c.requires (a.m - 1) (omega (arith, c.requires.m_low)), c.requires.m_low);
      late = omega arith;
    }

pub returns : goal.returns
unfolding answered
returns c =
    let a = c.args in
    let T = a.table.now in
    let C = column T a.columns a.kb in
    let top = is-filled (C 0) (λ e. c.if-table-kb.false (sym (top_at T a.kb a.columns) ∙ e)) in
    let last = is-filled (C (a.m - 1)) (λ e. c.if-table-last.false (sym (row_at T a.kb a.columns (a.m - 1)) ∙ e)) in
    λ x. rw (top, last) (c.of_between.ensures x)
