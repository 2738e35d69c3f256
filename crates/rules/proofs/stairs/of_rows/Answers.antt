use mathlib.Core.Path.{refl, ap, ◌∙◌}
use Prim.Native.Nat.{ℕ, ◌+◌, ◌*◌}
use native.Mathlib.Omega.{arith}
use Rattle.bits.specs.Numbers.{answered}
use Rattle.profile.specs.Staircase.{row_ends}
use Rattle.profile.proofs.Extension.{row-whole}
use Rattle.rules.specs.Places.{place_of, filled_column, table_row, table_column}
use Rattle.rules.proofs.Places.{filled-column}
use Rattle.rules.proofs.Firsts.{first-some-not}
use Rattle.rules.proofs.stairs.of_rows.Goals as goal

pub returns-in-Some : goal.returns-in-Some
unfolding answered place_of table_row table_column
returns-in-Some c =
    let a = c.args in
    let T = a.table.now in
    let on = c.in-Some.ensures in
    let row = c.in-Some.row in
    let from = a.kb + a.m in
    let column-at = filled-column T a.kb a.m a.x a.columns row from (row * a.columns + from) a.x c.in-Some.k refl on.2.1 in
    record {
      first = rw (first-some-not a.m (row_ends T a.kb a.m a.x a.columns) on.1 on.0);
      row_is = on.1;
      column_is = column-at ∙ ap (λ (row : ℕ). filled_column T a.columns row from a.x) on.1;
      inside = omega (arith, row-whole c.requires row (omega (arith, on.0)), c.requires.columns_are, on.2.0);
      late = omega arith;
    }

pub returns : goal.returns
unfolding answered
returns c = rw c.in_default.ensures c.of_extension.ensures
