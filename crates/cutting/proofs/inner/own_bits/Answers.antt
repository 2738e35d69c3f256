use Prim.Native.Nat.{◌%◌}
use borrow.Author.Tests.{lt-ltb, le-ltb}
use Rattle.cutting.specs.Plan.{own_bits}
use Rattle.cutting.proofs.inner.own_bits.Goals as goal

pub returns-then-r-bits : goal.returns-then-r-bits
unfolding own_bits
returns-then-r-bits c =
    let a = c.args in
    rw (lt-ltb a.r (a.bits % a.blocks) c.if-r-bits.true) (cc)

pub returns : goal.returns
unfolding own_bits
returns c =
    let a = c.args in
    rw (le-ltb a.r (a.bits % a.blocks) c.if-r-bits.false)
