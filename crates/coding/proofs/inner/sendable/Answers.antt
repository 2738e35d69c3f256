use Prim.Native.Nat.{◌+◌, ◌≤◌}
use native.Mathlib.Omega.{arith}
use Rattle.cutting.proofs.PlanFields.{of_fields, some-fields}
use Rattle.block.proofs.PlanFields.{word_room}
use Rattle.coding.proofs.Sent.{carried-room, sendable-is}
use Rattle.coding.proofs.inner.sendable.Goals as goal

pub own_bits-own-requires : goal.own_bits-own-requires
own_bits-own-requires c =
    let a = c.args in
    let R = a.profile.now in
    let k = some-fields R a.plan c.requires in
    (k.cut.bits_high, omega (arith, k.blocks_is, k.cut.some), omega (arith, k.blocks_is, k.cut.most))

pub overflow_add-carried : goal.overflow_add-carried
overflow_add-carried c =
    let room : c.own_bits-own.result + c.args.plan.sums ≤ c.args.plan.places = let a = c.args in
    let R = a.profile.now in
    carried-room R a.plan (some-fields R a.plan c.requires) a.r _ c.own_bits-own.ensures in
    let places : c.args.plan.places ≤ c.size-all.result = let a = c.args in
    let R = a.profile.now in
    omega (arith, word_room R a.plan (some-fields R a.plan c.requires), c.size-all.ensures.0) in
    omega (arith, room, places, c.size-all.ensures.1)

pub overflow_sub-n : goal.overflow_sub-n
overflow_sub-n c =
    let room : c.own_bits-own.result + c.args.plan.sums ≤ c.args.plan.places = let a = c.args in
    let R = a.profile.now in
    carried-room R a.plan (some-fields R a.plan c.requires) a.r _ c.own_bits-own.ensures in
    omega (arith, room)

pub overflow_sub-n-2 : goal.overflow_sub-n-2
overflow_sub-n-2 c =
    let places : c.args.plan.places ≤ c.size-all.result = let a = c.args in
    let R = a.profile.now in
    omega (arith, word_room R a.plan (some-fields R a.plan c.requires), c.size-all.ensures.0) in
    omega (arith, places)

pub returns : goal.returns
returns c =
    let a = c.args in
    let R = a.profile.now in
    let all = c.size-all.ensures in
    (λ ed of. sendable-is R a.plan (of_fields R ed a.plan of) a.r _ _ c.own_bits-own.ensures all.0, omega (arith, all.1))
