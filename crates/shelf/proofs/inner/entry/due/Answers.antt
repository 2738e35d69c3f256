use mathlib.Core.Path.{◌≡◌, ap}
use Prim.Native.Nat.{suc, ◌+◌, ◌-◌, ◌*◌}
use native.Mathlib.Omega.{arith}
use Rattle.shelf.specs.Shelf.{count, offset, size, offset_due}
use Rattle.shelf.proofs.inner.entry.due.Goals as goal

pub returns-then-k-eq0 : goal.returns-then-k-eq0
unfolding offset_due
returns-then-k-eq0 c =
    let a = c.args in
    let S = a.shelf.now in
    let first : offset_due S a.k ≡ 2 + 8 * count S = ap (offset_due S) c.if-k-eq0.true in
    (omega (arith, first, c.count.ensures.0), omega arith)

pub returns : goal.returns
unfolding offset_due
returns c =
    let a = c.args in
    let S = a.shelf.now in
    let one : a.k ≡ suc (a.k - 1) = omega arith in
    let next : offset_due S a.k ≡ offset S (a.k - 1) + size S (a.k - 1) = ap (offset_due S) one in
    (omega (arith, next, c.offset.ensures.0, c.size.ensures.0), omega arith)
