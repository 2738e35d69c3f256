use native.Mathlib.Omega.{arith}
use Rattle.cutting.proofs.PlanFields.{of_fields, places-product, plan-sum}
use Rattle.parity.proofs.Coded.{solution_front}
use Rattle.block.proofs.PlanFields.{word_room}
use Rattle.block.proofs.inner.code.Goals as goal

pub lay_block-requires : goal.lay_block-requires
lay_block-requires c =
    let a = c.args in
    let R = a.profile.now in
    let k = of_fields R c.requires.edition a.plan c.requires.ready.of in
    (c.requires.inside, c.requires.carried_fits, omega (arith, word_room R a.plan k, c.requires.fits), plan-sum R a.plan k, c.requires.ready.single)

pub returns : goal.returns
returns c =
    let a = c.args in
    let R = a.profile.now in
    let k = of_fields R c.requires.edition a.plan c.requires.ready.of in
    let laid = c.lay_block in
    let solve = c.solve in
    let product = places-product R a.plan k in
    solution_front (λ p l. laid.ensures.front p (omega arith)) solve.ensures
