use mathlib.Core.Path.{sym, ◌∙◌}
use mathlib.Core.Bool.{true}
use native.Mathlib.Omega.{arith}
use Rattle.bits.proofs.Ranges.{all_of}
use Rattle.rules.proofs.Firsts.{first-at}
use Rattle.rules.proofs.first.first_not.Goals as goal

pub returns-then-not-holds : goal.returns-then-not-holds
returns-then-not-holds g c = λ p same.
    let k = c.loop-k.k in
    let l = c.loop-k-test.true in
    (l, first-at c.args.n p k l (λ j m. sym (same j true (omega arith) (c.loop-k.invariant j m))) (sym (same k c.holds.result l c.holds.ensures) ∙ c.if-not-holds.true))

pub returns : goal.returns
returns g c = λ p same.
    all_of c.args.n p (λ j l. sym (same j true l (c.loop-k.invariant j (omega arith))))
