use Prim.Native.Nat.{◌+◌, ◌*◌, ◌≤◌}
use mathlib.Core.Bool.{true}
use native.Mathlib.Omega.{arith}
use lib.ListN.{length}
use Rattle.shelf.proofs.WellFormed.{formed-is}
use Rattle.keeping.proofs.write.put_entry.Goals as goal

pub size-size-requires : goal.size-size-requires
size-size-requires c =
    let inside : 10 + 8 * c.args.k ≤ length c.args.private.now = omega (arith, (formed-is c.args.private.now true c.requires.0).sizes.room) in
    inside

pub tenant-requires : goal.tenant-requires
tenant-requires c =
    let inside : 10 + 8 * c.args.k ≤ length c.args.private.now = omega (arith, (formed-is c.args.private.now true c.requires.0).sizes.room) in
    inside

pub profile-requires : goal.profile-requires
profile-requires c =
    let inside : 10 + 8 * c.args.k ≤ length c.args.private.now = omega (arith, (formed-is c.args.private.now true c.requires.0).sizes.room) in
    inside
