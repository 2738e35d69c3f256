use mathlib.Core.Path.{refl}
use native.Mathlib.Omega.{arith}
use Rattle.bits.specs.Steps.Words.{over, folded}
use Rattle.bits.proofs.Words.{folded_lt}
use Rattle.bits.proofs.inner.folded.Goals as goal

pub overflow_cast-result : goal.overflow_cast-result
unfolding folded over
overflow_cast-result c = omega (arith, folded_lt c.args.ones)

pub returns : goal.returns
unfolding folded over
returns c = refl
