use Prim.Native.Nat.{◌-◌}
use native.Mathlib.Omega.{arith}
use borrow.Author.Tests.{ltb-true, ltb-false, leb-true, leb-false}
use Rattle.profile.specs.Record.{z, rises}
use Rattle.profile.proofs.Shape.{less-test, rises-later}
use Rattle.rules.proofs.pairs.is_rising.Goals as goal

pub returns-then-i-eq0 : goal.returns-then-i-eq0
unfolding rises
returns-then-i-eq0 c = rw c.if-i-eq0.true

pub returns : goal.returns
unfolding z
returns c =
    let a = c.args in
    let R = a.octets.now in
    rw (rises-later R a.i c.if-i-eq0.false)
    (less-test _ (z R (a.i - 1)) (z R a.i) (λ e. omega (arith, ltb-true, leb-true)) (λ e. omega (arith, ltb-false, leb-false)))
