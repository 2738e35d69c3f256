use mathlib.Core.Path.{◌∙◌}
use native.Mathlib.Omega.{arith}
use Rattle.nearest.proofs.Loops.{chosen-is}
use Rattle.nearest.proofs.rows.chosen.Goals as goal

pub returns : goal.returns
returns c =
    let is = chosen-is c.args.h c.args.after.now c.args.s c.zero_price-x.result c.requires.0 c.requires.1 c.zero_price-x.ensures.0 in
    (c.from.ensures ∙ is.0, omega (arith, c.from.ensures, is))
