use mathlib.Core.Path.{◌≡◌, ◌∙◌}
use Prim.Native.Nat.{◌+◌, ◌-◌}
use native.Mathlib.Omega.{arith}
use lib.ListN.{take, drop}
use Rattle.profile.specs.Record.{offset, table_size, table}
use Rattle.profile.proofs.Shape.{shape_is, table-whole}
use Rattle.rules.proofs.Records.{small, table-start, table-inside}
use Rattle.rules.proofs.tables.table.Goals as goal

pub offset_due-start-requires : goal.offset_due-start-requires
offset_due-start-requires c =
    let a = c.args in
    let R = a.octets.now in
    let n = small R c.requires.0.sizes in
    (n.few, n.short, omega (arith, n.few, c.requires.1))

pub overflow_add-end : goal.overflow_add-end
overflow_add-end c =
    let a = c.args in
    let R = a.octets.now in
    omega (arith, table-inside R c.requires.0.sizes c.requires.0.shape a.i c.requires.1)

pub slice_bounds-result-end : goal.slice_bounds-result-end
slice_bounds-result-end c =
    let a = c.args in
    let R = a.octets.now in
    omega (arith, table-inside R c.requires.0.sizes c.requires.0.shape a.i c.requires.1)

pub returns : goal.returns
unfolding table
returns c =
    let a = c.args in
    let R = a.octets.now in
    let n = c.requires.0.sizes in
    let start = c.offset_due-start.result in
    let size = a.s.size in
    let long : start + size - start ≡ size = omega arith in
    let at : start ≡ offset R a.i = c.offset_due-start.ensures ∙ table-start R n c.requires.0.shape a.i c.requires.1 in
    let part : take (start + size - start) (drop start R) ≡ take (table_size R) (drop (offset R a.i) R) = cc (long, at, n.size_is) in
    record { same = part; whole = rw part (table-whole R (shape_is R c.requires.0.shape) a.i (omega (arith, n.t_is, c.requires.1))) }
