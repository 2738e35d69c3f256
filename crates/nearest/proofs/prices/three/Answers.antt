use native.Mathlib.Omega.{arith}
use Rattle.nearest.specs.Steps.Trellis.{three_of}
use Rattle.nearest.proofs.Tolls.{is-bit}
use Rattle.nearest.proofs.prices.three.Goals as goal

pub overflow_mul-result : goal.overflow_mul-result
overflow_mul-result c = omega (arith, is-bit _ _ _ c.output.ensures)

pub overflow_mul-result-2 : goal.overflow_mul-result-2
overflow_mul-result-2 c = omega (arith, is-bit _ _ _ c.output.ensures, is-bit _ _ _ c.output-2.ensures)

pub overflow_add-result : goal.overflow_add-result
overflow_add-result c = omega (arith, is-bit _ _ _ c.output.ensures, is-bit _ _ _ c.output-2.ensures)

pub overflow_add-result-2 : goal.overflow_add-result-2
overflow_add-result-2 c = omega (arith, is-bit _ _ _ c.output.ensures, is-bit _ _ _ c.output-2.ensures, is-bit _ _ _ c.output-3.ensures)

pub returns : goal.returns
unfolding three_of
returns c = omega (arith, c.output-3.ensures, c.output-2.ensures, c.output.ensures)
