use mathlib.Core.Path.{refl}
use Rattle.bits.proofs.Lists.{bits-zeros}
use Rattle.parity.proofs.sums.add_columns.Goals as goal

pub loop-j-init : goal.loop-j-init
loop-j-init c = (refl, bits-zeros 192, c.requires.0.sums)
