use native.Mathlib.Omega.{arith}
use Rattle.matching.proofs.Stretch.{copies_none, copies_turn, copies_all}
use Rattle.matching.proofs.inner.copies_agree.Goals as goal

pub loop-k-init : goal.loop-k-init
loop-k-init c = copies_none c.args.n.0 c.args.s.now

pub loop-k-preserved : goal.loop-k-preserved
loop-k-preserved c =
    let l = c.loop-k in
    copies_turn c.args.n.0 l.k c.args.s.now l.agree l.auto.k l.invariant

pub returns : goal.returns
returns c =
    let l = c.loop-k in
    copies_all c.args.n.0 l.k c.args.s.now l.agree (omega arith) l.invariant
