use mathlib.Core.Path.{◌≡◌, subst}
use Prim.Native.Nat.{ℕ, ◌+◌, ◌*◌, ◌/◌}
use native.Mathlib.Omega.{arith}
use Rattle.nearest.specs.Steps.Trellis.{price}
use Rattle.nearest.proofs.Loops.{price_at}
use Rattle.nearest.proofs.Tolls.{price_odd, price-most}
use Rattle.nearest.proofs.prices.zero_price.Goals as goal

pub overflow_sub-result : goal.overflow_sub-result
overflow_sub-result c =
    let a = c.args in
    let p = c.requires in
    omega (arith, price_at a.prices.now p.2 a.h _ (a.s / 2) c.from.ensures p.0 (omega arith), price-most a.h (2 * (a.s / 2)) p.0)

pub returns-then-s-eq0 : goal.returns-then-s-eq0
returns-then-s-eq0 c =
    let a = c.args in
    let p = c.requires in
    let here = price_at a.prices.now p.2 a.h _ (a.s / 2) c.from.ensures p.0 (omega arith) in
    let even : 2 * (a.s / 2) ≡ a.s = omega (arith, c.if-s-eq0.true) in
    let is = rw even at here in
    (is, omega (arith, is, price-most a.h a.s p.0))

pub returns-else-s-eq0 : goal.returns-else-s-eq0
returns-else-s-eq0 c =
    let a = c.args in
    let p = c.requires in
    let here = price_at a.prices.now p.2 a.h _ (a.s / 2) c.from.ensures p.0 (omega arith) in
    let odd : 2 * (a.s / 2) + 1 ≡ a.s = omega (arith, c.if-s-eq0.false) in
    let rest = subst (λ (s : ℕ). price a.h s + price a.h (2 * (a.s / 2)) ≡ 3) odd (price_odd a.h (a.s / 2) p.0 (omega arith)) in
    (omega (arith, here, rest), omega (arith, here, rest))
