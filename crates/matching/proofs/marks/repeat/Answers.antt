use native.Mathlib.Omega.{arith}
use Rattle.matching.proofs.Places.{repeated_none, repeated_more}
use Rattle.matching.proofs.marks.repeat.Goals as goal

pub loop-k-init : goal.loop-k-init
loop-k-init c = repeated_none c.args.n.0 c.args.out.now

pub loop-k-preserved : goal.loop-k-preserved
loop-k-preserved c =
    let l = c.loop-k in
    repeated_more c.args.n.0 l.k c.args.out.now l.out c.requires.0 l.auto.k (omega (arith, c.requires)) l.invariant
