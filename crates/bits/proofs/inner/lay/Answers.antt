use mathlib.Core.Path.{◌≡◌}
use native.Mathlib.Omega.{arith}
use Rattle.bits.proofs.Laid.{laid_none, laid_more}
use Rattle.bits.proofs.inner.lay.Goals as goal

pub loop-k-init : goal.loop-k-init
loop-k-init c =
    let a = c.args in
    laid_none a.s.now a.out.now a.from a.at

pub loop-k-preserved : goal.loop-k-preserved
loop-k-preserved c =
    let a = c.args in
    let l = c.loop-k in
    laid_more a.s.now a.out.now l.out a.from l.k a.at l.invariant (omega (arith, c.requires))

pub returns : goal.returns
returns c =
    let l = c.loop-k in
    let all : c.args.n ≡ l.k = omega arith in
    rw all l.invariant
