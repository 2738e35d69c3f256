use mathlib.Core.Path.{◌≡◌}
use Prim.Native.Nat.{◌+◌, ◌-◌, ◌≤◌}
use native.Mathlib.Omega.{arith}
use lib.ListN.{length, take, drop}
use Rattle.profile.specs.Record.{offset, table_size, table}
use Rattle.profile.proofs.Shape.{Shape, shape_is, table-whole}
use Rattle.profile.proofs.parts.table.Goals as goal

pub offset-start-requires : goal.offset-start-requires
offset-start-requires c =
    let shaped : Shape c.args.profile.now = shape_is c.args.profile.now c.requires.0 in
    shaped.pair c.args.i c.requires.1

pub table_size-requires : goal.table_size-requires
table_size-requires c =
    let shaped : Shape c.args.profile.now = shape_is c.args.profile.now c.requires.0 in
    shaped.right

pub slice_bounds-result-end : goal.slice_bounds-result-end
slice_bounds-result-end c =
    let shaped : Shape c.args.profile.now = shape_is c.args.profile.now c.requires.0 in
    let inside : c.offset-start.result + c.table_size.result ≤ length c.args.profile.now = omega (arith, shaped.inside c.args.i c.requires.1) in
    omega (arith, inside)

pub returns : goal.returns
unfolding table
returns c =
    let shaped : Shape c.args.profile.now = shape_is c.args.profile.now c.requires.0 in
    let R = c.args.profile.now in
    let start = c.offset-start.result in
    let size = c.table_size.result in
    let long : start + size - start ≡ size = omega arith in
    let part : take (start + size - start) (drop start R) ≡ take (table_size R) (drop (offset R c.args.i) R) = cc long in
    record { same = part; whole = rw part (table-whole R shaped c.args.i c.requires.1) }
