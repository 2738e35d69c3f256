use native.Mathlib.Omega.{arith}
use Rattle.parity.proofs.Columns.{sums-room}
use Rattle.parity.proofs.inner.code.Goals as goal

pub solve-requires : goal.solve-requires
solve-requires c =
    let pre = c.requires in
    (pre, sums-room _ _ _ _ _ 1152 (omega (arith)))

pub solve-requires-2 : goal.solve-requires-2
solve-requires-2 c =
    let pre = c.requires in
    (pre, sums-room _ _ _ _ _ 3840 (omega (arith, pre.shape.rows_most)))
