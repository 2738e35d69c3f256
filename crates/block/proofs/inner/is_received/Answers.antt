use mathlib.Core.Path.{sym}
use Prim.Native.Nat.{◌+◌, ◌≤◌}
use native.Mathlib.Omega.{arith}
use lib.ListN.{length}
use lib.Seq.{length-take-le}
use Rattle.cutting.proofs.PlanFields.{some-fields, plan-sum}
use Rattle.cutting.proofs.Summed.{no_sum}
use Rattle.block.proofs.PlanFields.{word_room}
use Rattle.block.proofs.ReceivedBlock.{carried-bits}
use Rattle.block.proofs.inner.is_received.Goals as goal

pub slice_bounds-sum_holds-end : goal.slice_bounds-sum_holds-end
slice_bounds-sum_holds-end c =
    let room : c.args.own + c.args.plan.sums ≤ length c.is_sent_as.new.word = let a = c.args in
    let k = some-fields a.profile.now a.plan c.requires.some in
    omega (arith, word_room a.profile.now a.plan k, c.requires.fits, c.requires.carried_fits, c.is_sent_as.auto.word) in
    room

pub slice_bounds-sum_holds-end-2 : goal.slice_bounds-sum_holds-end-2
slice_bounds-sum_holds-end-2 c =
    let room : c.args.own + c.args.plan.sums ≤ length c.is_sent_as.new.word = let a = c.args in
    let k = some-fields a.profile.now a.plan c.requires.some in
    omega (arith, word_room a.profile.now a.plan k, c.requires.fits, c.requires.carried_fits, c.is_sent_as.auto.word) in
    sym (length-take-le _ _ room)

pub sum_holds-requires : goal.sum_holds-requires
sum_holds-requires c =
    let room : c.args.own + c.args.plan.sums ≤ length c.is_sent_as.new.word = let a = c.args in
    let k = some-fields a.profile.now a.plan c.requires.some in
    omega (arith, word_room a.profile.now a.plan k, c.requires.fits, c.requires.carried_fits, c.is_sent_as.auto.word) in
    let sent = c.is_sent_as in
    let a = c.args in
    let k = some-fields a.profile.now a.plan c.requires.some in
    let yes = c.if-not-is_sent_as.false in
    (omega (arith, length-take-le (a.own + a.plan.sums) sent.new.word room), search (plan-sum a.profile.now a.plan k, no_sum), carried-bits a.profile.now a.plan a.s.now a.own a.from sent.result sent.new.word sent.ensures yes c.requires.single)
