use mathlib.Core.Path.{◌≡◌, sym, ap, ◌∙◌}
use Prim.Native.Nat.{ℕ, ◌+◌}
use native.Mathlib.Omega.{arith}
use lib.ListN.{take}
use Rattle.cutting.proofs.Summed.{without_sum, put-sum}
use Rattle.cutting.proofs.inner.lay_sum.Goals as goal

pub returns-else-sums-ne0 : goal.returns-else-sums-ne0
returns-else-sums-ne0 c =
    let a = c.args in
    let none : a.own + a.sums ≡ a.own = omega (arith, c.if-sums-ne0.false) in
    ap (λ (n : ℕ). take n a.word.now) none ∙ sym (without_sum a.sums (take a.own a.word.now) c.if-sums-ne0.false)

pub returns-then-sums-ne0 : goal.returns-then-sums-ne0
returns-then-sums-ne0 c =
    let a = c.args in
    ap (take (a.own + a.sums)) c.append.ensures ∙ put-sum a.sums a.word.now a.own c.requires.1 c.if-sums-ne0.true c.requires.0
