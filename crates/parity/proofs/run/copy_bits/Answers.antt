use native.Mathlib.Omega.{arith}
use borrow.Author.Rules.{rules}
use Rattle.parity.proofs.Runs.{run_more, copied-low, copied_is}
use Rattle.parity.proofs.run.copy_bits.Goals as goal

pub loop-k-preserved : goal.loop-k-preserved
loop-k-preserved c =
    let a = c.args in
    run_more _ _ _ _ _ _ c.loop-k.invariant (search rules) (omega (arith, copied_is a.g.now a.from c.loop-k.k, copied-low a.g.now a.from c.loop-k.k))
