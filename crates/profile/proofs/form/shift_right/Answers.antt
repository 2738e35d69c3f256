use mathlib.Core.Path.{ap}
use mathlib.Core.Bool.{Bool, ◌||◌}
use native.Mathlib.Omega.{arith}
use lib.Dec.{eqb}
use borrow.Author.Tests.{ltb-true, ltb-false, leb-true, leb-false}
use Rattle.profile.specs.Record.{empty, shift_right}
use Rattle.profile.proofs.Shape.{less-test}
use Rattle.profile.proofs.form.shift_right.Goals as goal

pub returns : goal.returns
unfolding shift_right
returns c =
    let a = c.args in
    ap (λ (b : Bool). eqb a.s empty || b)
    (less-test _ a.s a.z (λ e. omega (arith, ltb-true, leb-true)) (λ e. omega (arith, ltb-false, leb-false)))
