use native.Mathlib.Omega.{arith}
use lib.ListN.{length}
use Rattle.cutting.specs.Plan.{block_bits}
use Rattle.cutting.proofs.Plans.{plan-passed}
use Rattle.cutting.proofs.PlanFields.{bits_is}
use Rattle.coding.proofs.RequestNumber.{request_passed}
use Rattle.coding.proofs.send_accepted.Goals as goal

pub send_in-requires : goal.send_in-requires
unfolding block_bits
send_in-requires c =
    let a = c.args in
    let ok = request_passed a.profile.now (length a.block.now) a.terms a.g.0 a.g.0 (length a.out.now) c.requires.0 in
    let count = bits_is a.profile.now a.terms.edition (length a.block.now) a.plan c.requires.1 ok.0 in
    (c.requires.0, c.requires.1, omega (arith, count, c.if-block-le-FEW.true), omega arith)

pub send_in-requires-2 : goal.send_in-requires-2
unfolding block_bits
send_in-requires-2 c =
    let a = c.args in
    let ok = request_passed a.profile.now (length a.block.now) a.terms a.g.0 a.g.0 (length a.out.now) c.requires.0 in
    let count = bits_is a.profile.now a.terms.edition (length a.block.now) a.plan c.requires.1 ok.0 in
    let most = (plan-passed a.profile.now a.terms.edition (length a.block.now) ok.0).2 in
    (c.requires.0, c.requires.1, omega (arith, count, most), omega arith)
