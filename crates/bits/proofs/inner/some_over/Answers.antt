use mathlib.Core.Path.{◌≡◌}
use Prim.Native.Nat.{ℕ, max}
use native.Mathlib.Omega.{arith}
use lib.Dec.{ltb}
use lib.ListN.{get_or}
use Rattle.std.specs.Ordering.{ord_max, nat_cmp}
use Rattle.bits.proofs.Over.{over_turn, over_higher, over_end}
use Rattle.bits.proofs.inner.some_over.Goals as goal

max_is : (a b : ℕ) → ord_max nat_cmp a b ≡ max a b
max_is a b = grind arith

pub loop-x-preserved : goal.loop-x-preserved
loop-x-preserved c =
    let l = c.loop-x in
    let a = c.args in
    let turn = over_turn a.most (ltb a.most l.high) l.x-index a.s.now (omega arith) in
    cc (turn, over_higher a.most l.high (get_or a.s.now l.x-index 0), c.max-high.ensures, max_is l.high (get_or a.s.now l.x-index 0))

pub returns : goal.returns
returns c =
    let a = c.args in
    let l = c.loop-x in
    cc (over_end a.most (ltb a.most l.high) l.x-index a.s.now (omega arith), l.invariant)
