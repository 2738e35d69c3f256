use mathlib.Core.Path.{◌≡◌, refl, sym, ◌∙◌}
use mathlib.Core.Bool.{true}
use Prim.Native.Nat.{◌+◌, ◌-◌, ◌*◌}
use native.Mathlib.Omega.{arith}
use Rattle.profile.specs.Staircase.{extension_row}
use Rattle.profile.proofs.Extension.{row-whole}
use Rattle.rules.proofs.Places.{filled-column}
use Rattle.rules.proofs.Firsts.{first-some-not}
use Rattle.rules.proofs.Staircase.{own-wrong, own-right, later-is}
use Rattle.rules.proofs.stairs.of_extension_row.Goals as goal

pub returns-then-table-own-ne-STEP : goal.returns-then-table-own-ne-STEP
returns-then-table-own-ne-STEP c =
    let a = c.args in
    let wrong = own-wrong a.table.now a.kb a.m a.x a.columns a.i c.requires.1 c.if-table-own-ne-STEP.true in
    let row = row-whole c.requires.0 (a.m + a.i) (omega arith) in
    (wrong.0, record { rule_is = rw wrong.1; row_is = refl; column_is = rw wrong.1; inside = omega (arith, row, c.requires.0.columns_are) })

pub returns-in_err-k : goal.returns-in_err-k
returns-in_err-k c =
    let a = c.args in
    let T = a.table.now in
    let right : extension_row T a.kb a.m a.x a.columns a.i ≡ true =
    sym (later-is T a.kb a.m a.x a.columns a.i c.requires.1 c.if-table-own-ne-STEP.false) ∙ c.in_err-k.ensures in
    rw c.from_residual.ensures right

pub returns : goal.returns
returns c =
    let a = c.args in
    let T = a.table.now in
    let z = c.if-table-own-ne-STEP.false in
    let right = own-right T a.kb a.m a.x a.columns a.i c.requires.1 z in
    let row = row-whole c.requires.0 (a.m + a.i) (omega arith) in
    let from = a.kb + (a.m + a.i) + 1 in
    let k = c.in_ok-k.k in
    let f = c.in_ok-k.ensures in
    let at =
    filled-column T a.kb a.m a.x a.columns (a.m + a.i) from ((a.m + a.i) * a.columns + (a.kb + (a.m + a.i)) + 1) (a.x - (a.i + 1)) k (omega arith) f.1 in (
      sym (later-is T a.kb a.m a.x a.columns a.i c.requires.1 z) ∙ first-some-not _ _ f.1 f.0,
      record { rule_is = rw right; row_is = refl; column_is = rw right at; inside = omega (arith, row, c.requires.0.columns_are, f.0) },
    )
