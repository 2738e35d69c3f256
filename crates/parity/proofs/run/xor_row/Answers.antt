use native.Mathlib.Omega.{arith}
use Rattle.parity.proofs.Runs.{span-all, span-few, run_long}
use Rattle.parity.proofs.run.xor_row.Goals as goal

pub xor_run-requires : goal.xor_run-requires
xor_run-requires c =
    let pre = c.requires in
    let e = span-all _ c.if-z-gt16.true in
    (omega (arith, e, pre.0), omega (arith, e, pre.1), pre.2, pre.3)

pub returns-then-z-gt16 : goal.returns-then-z-gt16
returns-then-z-gt16 c = run_long (span-all _ c.if-z-gt16.true) c.xor_run.ensures

pub xor_run-requires-2 : goal.xor_run-requires-2
xor_run-requires-2 c =
    let pre = c.requires in
    let e = span-few _ c.if-z-gt16.false in
    (omega (arith, e, pre.0), omega (arith, e, pre.1), pre.2, pre.3)

pub returns : goal.returns
returns c = run_long (span-few _ c.if-z-gt16.false) c.xor_run-2.ensures
