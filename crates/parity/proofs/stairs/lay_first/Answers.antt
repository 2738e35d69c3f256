use mathlib.Core.Path.{refl}
use native.Mathlib.Omega.{arith}
use borrow.Author.Rules.{rules}
use Rattle.parity.proofs.Runs.{zeros-at}
use Rattle.parity.proofs.Groups.{together-none, together_more, together-all, laid-first}
use Rattle.parity.proofs.stairs.lay_first.Goals as goal

pub loop-i-init : goal.loop-i-init
loop-i-init c = (refl, together-none _ _ (zeros-at 96))

pub loop-i-preserved : goal.loop-i-preserved
loop-i-preserved c =
    let l = c.loop-i in
    let r = c.xor_run.ensures in
    (omega (arith, r.len, l.invariant.0), together_more _ refl l.invariant.1 r)

pub returns : goal.returns
returns c =
    let l = c.loop-i in
    laid-first _ _ _ _ c.requires.0.z_most (together-all _ (search rules) (search rules) l.invariant.1) c.copy_bits.ensures
