use mathlib.Core.Path.{ap, ◌∙◌}
use mathlib.Core.Bool.{Bool}
use Prim.Native.Nat.{ℕ, suc, ◌+◌, ◌-◌}
use native.Mathlib.Omega.{arith}
use Rattle.bits.specs.Numbers.{answered}
use Rattle.profile.specs.Staircase.{next_column}
use Rattle.profile.specs.Steps.Walk.{column, next_right}
use Rattle.profile.proofs.Walk.{row-stands}
use Rattle.profile.proofs.Extension.{stepped}
use Rattle.rules.specs.Rules.{first_not}
use Rattle.rules.specs.Places.{place_of, table_row, table_column}
use Rattle.rules.proofs.Firsts.{first-some-not}
use Rattle.rules.proofs.stairs.of_columns.Goals as goal

pub returns-in-Some : goal.returns-in-Some
unfolding answered place_of table_row table_column next_right
returns-in-Some c =
    let a = c.args in
    let T = a.table.now in
    let off = c.in-Some.ensures in
    let right : ℕ → Bool = λ i. next_column a.m (suc i) (column T a.columns (a.kb + suc i)) in
    record {
      first = rw (first-some-not (a.m - 1) right off.1 off.0);
      row_is = off.2.1 ∙ ap (λ (i : ℕ). first_not a.m (λ row. next_right T a.kb a.columns row i)) off.1;
      column_is = omega (arith, off.1);
      inside = omega (arith, row-stands (stepped c.requires) c.in-Some.row off.2.0, off.0);
      late = omega arith;
    }

pub returns : goal.returns
unfolding answered
returns c = rw c.in_default.ensures c.of_rows.ensures
