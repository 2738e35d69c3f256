use native.Mathlib.Omega.{arith}
use Rattle.parity.proofs.Runs.{span_fits}
use Rattle.parity.proofs.Columns.{entered-empty, entered-filled}
use Rattle.parity.proofs.sums.add_entry.Goals as goal

pub xor_row-requires : goal.xor_row-requires
xor_row-requires c =
    let pre = c.requires in
    let fits = span_fits _ pre.1 in
    (omega (arith, fits, pre.3), omega (arith, fits, c.run_start.ensures.1, pre.1, pre.2), pre.5, pre.4)

pub returns-then-s-ne-EMPTY : goal.returns-then-s-ne-EMPTY
returns-then-s-ne-EMPTY c =
    entered-filled _ _ _ _ _ _ _ c.if-s-ne-EMPTY.true c.run_start.ensures.0 c.xor_row.ensures

pub returns-else-s-ne-EMPTY : goal.returns-else-s-ne-EMPTY
returns-else-s-ne-EMPTY c = entered-empty _ _ _ _ _ c.if-s-ne-EMPTY.false c.requires.5
