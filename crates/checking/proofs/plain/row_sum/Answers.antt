use borrow.Author.Rules.{rules}
use Rattle.checking.proofs.Elements.{summed-none, summed_more, summed-all}
use Rattle.checking.proofs.plain.row_sum.Goals as goal

pub loop-place-init : goal.loop-place-init
loop-place-init c = (search rules, summed-none _ _ _ _ _)

pub loop-place-preserved : goal.loop-place-preserved
loop-place-preserved c =
    (search rules, summed_more _ _ _ _ _ _ c.loop-place.invariant.1 c.element.ensures.0 c.bit.ensures.0)

pub returns : goal.returns
returns c =
    (summed-all _ _ _ _ _ _ c.loop-place.invariant.1 (search rules) (search rules), c.loop-place.invariant.0)
