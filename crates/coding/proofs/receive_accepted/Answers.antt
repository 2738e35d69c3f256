use native.Mathlib.Omega.{arith}
use Rattle.cutting.specs.Plan.{block_bits}
use Rattle.cutting.proofs.Plans.{plan-passed}
use Rattle.cutting.proofs.PlanFields.{bits_is}
use Rattle.coding.proofs.receive_accepted.Goals as goal

pub receive_in-requires : goal.receive_in-requires
unfolding block_bits
receive_in-requires c =
    let a = c.args in
    let count = bits_is a.profile.now a.terms.edition a.octets a.plan c.requires.1 c.requires.0.taken in
    (c.requires.0, c.requires.1, c.requires.2, omega (arith, count, c.if-octets-le-FEW.true), omega arith, c.if-octets-le-FEW.true, omega arith)

pub receive_in-requires-2 : goal.receive_in-requires-2
unfolding block_bits
receive_in-requires-2 c =
    let a = c.args in
    let count = bits_is a.profile.now a.terms.edition a.octets a.plan c.requires.1 c.requires.0.taken in
    let most = (plan-passed a.profile.now a.terms.edition a.octets c.requires.0.taken).2 in
    (c.requires.0, c.requires.1, c.requires.2, omega (arith, count, most), omega arith, most, omega arith)
