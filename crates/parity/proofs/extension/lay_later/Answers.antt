use native.Mathlib.Omega.{arith}
use borrow.Author.Rules.{rules}
use Rattle.parity.proofs.Columns.{sums-all}
use Rattle.parity.proofs.Groups.{begun_more}
use Rattle.parity.proofs.extension.lay_later.Goals as goal

pub loop-n-preserved : goal.loop-n-preserved
loop-n-preserved c =
    let fit = c.requires.0 in
    let l = c.loop-n in
    let own = c.lay_own.ensures in
    let more = begun_more _ _ _ _ _ _ _ _ _ fit.shape.z_some fit.some (search rules) (search rules) l.invariant.0 l.invariant.1 own.0 in
    (more, sums-all _ _ _ _ _ (omega arith) (omega arith) own.1)
