use native.Mathlib.Omega.{arith}
use Rattle.matching.proofs.Put.{lined_up}
use Rattle.matching.proofs.line.line_up.Goals as goal

pub returns : goal.returns
returns c =
    let pre = c.requires in
    lined_up _ _ _ _ pre.0 pre.1 _ _ (omega (arith, c.min-low.ensures)) (omega (arith, c.min-mid.ensures))
    c.lay_run-one.ensures c.lay_run-two.ensures c.lay_run-three.ensures c.lay_run-all.ensures
