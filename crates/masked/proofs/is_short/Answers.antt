use mathlib.Core.Path.{sym}
use Prim.Native.Nat.{◌+◌, ◌-◌, ◌<◌}
use native.Mathlib.Omega.{arith}
use borrow.Author.Tests.{ltb-true, lt-ltb}
use lib.Dec.{ltb}
use Rattle.bits.proofs.Ranges.{either_way}
use Rattle.masked.proofs.is_short.Goals as goal

pub returns-then-lent-n : goal.returns-then-lent-n
returns-then-lent-n c =
    let a = c.args in
    let h : a.lent < a.n + a.width = omega arith in
    sym (lt-ltb a.lent (a.n + a.width) h)

pub returns : goal.returns
returns c =
    let a = c.args in
    let left = a.lent - a.n in
    let all = a.n + a.width in
    either_way (ltb left a.width) (ltb a.lent all)
    (λ e. lt-ltb a.lent all (omega (arith, ltb-true left a.width e)))
    (λ e. lt-ltb left a.width (omega (arith, ltb-true a.lent all e)))
