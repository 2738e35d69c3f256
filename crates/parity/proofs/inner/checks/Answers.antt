use native.Mathlib.Omega.{arith}
use Rattle.parity.proofs.Columns.{sums-room}
use Rattle.parity.proofs.inner.checks.Goals as goal

pub are_even-requires : goal.are_even-requires
are_even-requires c =
    let pre = c.requires in
    record { shape = pre.0; long = pre.1; sums = sums-room _ _ _ _ _ 1152 (omega (arith)) }

pub are_even-requires-2 : goal.are_even-requires-2
are_even-requires-2 c =
    let pre = c.requires in
    record { shape = pre.0; long = pre.1; sums = sums-room _ _ _ _ _ 3840 (omega (arith, pre.0.rows_most)) }
