use Prim.Native.Nat.{◌*◌}
use native.Mathlib.Omega.{arith}
use lib.ListN.{length-take}
use Rattle.checking.proofs.Elements.{has-row, sums-made}
use Rattle.checking.proofs.plain.put_sums.Goals as goal

pub row_sum-requires : goal.row_sum-requires
row_sum-requires c =
    let a = c.args in
    (has-row _ _ _ _ c.requires.0 _ (omega (arith, length-take (a.rows * a.z) a.out.now)), c.requires.1)

pub returns : goal.returns
returns c =
    let a = c.args in
    let l = c.loop-row in
    let long = length-take (a.rows * a.z) a.out.now in
    sums-made _ _ _ _ _ _ _ _ l.row (omega (arith, c.requires.2)) (omega (arith, c.requires.2)) l.invariant
