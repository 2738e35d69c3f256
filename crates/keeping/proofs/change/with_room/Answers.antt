use mathlib.Core.Path.{◌≡◌, sym}
use mathlib.Core.Bool.{true}
use Prim.Native.Nat.{◌+◌, ◌-◌, ◌≤◌, ◌<◌}
use native.Mathlib.Omega.{arith}
use lib.ListN.{length}
use Rattle.shelf.specs.Shelf.{count}
use Rattle.shelf.proofs.WellFormed.{Formed, formed-is}
use Rattle.keeping.specs.Steps.Places.{freed, size_with}
use Rattle.keeping.proofs.Sizes.{freed-inside, room-entries, room-octets, within_roomed}
use Rattle.keeping.proofs.change.with_room.Goals as goal

pub count-requires : goal.count-requires
count-requires c =
    let formed : Formed c.args.private.now true = formed-is c.args.private.now true c.requires.0 in
    omega (arith, formed.sizes.room)

pub returns-then-count-spot-gt64 : goal.returns-then-count-spot-gt64
returns-then-count-spot-gt64 c =
    let a = c.args in
    let S = a.private.now in
    let many : 64 < count S + 1 - a.spot.gone = omega (arith, c.count.ensures.0, c.if-count-spot-gt64.true) in
    sym (room-entries S a.spot.at a.spot.gone a.n a.lent many)

pub returns-then-n-gt65535 : goal.returns-then-n-gt65535
unfolding size_with
returns-then-n-gt65535 c =
    let a = c.args in
    let S = a.private.now in
    let much : 65535 < length S - freed S a.spot.at a.spot.gone + 8 + a.n = omega (arith, c.if-n-gt65535.true) in
    sym (room-octets S a.spot.at a.spot.gone a.n a.lent much)

pub overflow_sub-size : goal.overflow_sub-size
overflow_sub-size c =
    omega (arith, freed-inside c.args.private.now c.args.spot.at c.args.spot.gone c.requires.0 c.requires.1 c.requires.2, c.freed.ensures)

pub returns-then-size-gt65535 : goal.returns-then-size-gt65535
unfolding size_with
returns-then-size-gt65535 c =
    let a = c.args in
    let S = a.private.now in
    let much : 65535 < length S - freed S a.spot.at a.spot.gone + 8 + a.n = omega (arith, c.freed.ensures, c.if-size-gt65535.true) in
    sym (room-octets S a.spot.at a.spot.gone a.n a.lent much)

pub returns : goal.returns
unfolding size_with
returns c =
    let a = c.args in
    let S = a.private.now in
    let f = c.freed in
    let size : length S - f.result + 8 + a.n ≡ length S - freed S a.spot.at a.spot.gone + 8 + a.n = omega (arith, f.ensures) in
    let few : count S + 1 - a.spot.gone ≤ 64 = omega (arith, c.count.ensures.0, c.if-count-spot-gt64.false) in
    let short : length S - f.result + 8 + a.n ≤ 65535 = omega (arith, c.if-size-gt65535.false) in
    within_roomed S a.spot.at a.spot.gone a.n a.lent c.within.result (length S - f.result + 8 + a.n) size few short c.within.ensures
