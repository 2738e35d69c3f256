use native.Mathlib.Omega.{arith}
use Rattle.parity.proofs.Columns.{doubled}
use Rattle.parity.proofs.sums.double.Goals as goal

pub returns-then-base-word : goal.returns-then-base-word
returns-then-base-word c =
    let pre = c.requires in
    doubled _ _ _ _ _ _ _ (omega (arith, pre.1)) pre.4 c.copy_bits.ensures c.copy_bits-then-base-word.ensures

pub returns : goal.returns
returns c =
    let pre = c.requires in
    doubled _ _ _ _ _ _ _ (omega arith) pre.4 c.copy_bits-2.ensures c.copy_bits-3.ensures
