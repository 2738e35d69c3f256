use mathlib.Core.Path.{refl}
use native.Mathlib.Omega.{arith}
use Rattle.parity.proofs.Runs.{zeros-at}
use Rattle.parity.proofs.Groups.{together-none, together_more, groups_none, laid_more}
use Rattle.parity.proofs.stairs.lay_next.Goals as goal

pub loop-step-init : goal.loop-step-init
loop-step-init c = (refl, together-none _ _ (zeros-at 96), groups_none _ _ _ _)

pub loop-step-preserved : goal.loop-step-preserved
loop-step-preserved c =
    let l = c.loop-step in
    let r = c.xor_run.ensures in
    let more = together_more _ refl l.invariant.1 r in (
      omega (arith, r.len, l.invariant.0),
      more,
      laid_more _ _ _ _ c.requires.0.z_most more l.invariant.2 c.copy_bits.ensures refl,
    )
