use borrow.Author.Rules.{rules}
use Rattle.parity.proofs.Runs.{run_more, added_is}
use Rattle.parity.proofs.run.xor_run.Goals as goal

pub loop-k-preserved : goal.loop-k-preserved
loop-k-preserved c =
    let a = c.args in
    let pre = c.requires in
    let sum = added_is a.acc.now a.at a.g.now a.from c.loop-k.k c.loop-k.acc pre.2 pre.3 c.loop-k.invariant in
    run_more _ _ _ _ _ _ c.loop-k.invariant (search rules) sum
