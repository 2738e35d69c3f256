use mathlib.Core.Path.{◌≡◌, ◌∙◌}
use native.Mathlib.Omega.{arith}
use lib.ListN.{length}
use Rattle.profile.specs.Record.{z, table, table_size}
use Rattle.profile.proofs.Shape.{shape_is}
use Rattle.rules.proofs.Records.{small, table-length, over-with}
use Rattle.rules.proofs.tables.over_in.Goals as goal

pub overflow_mul-i : goal.overflow_mul-i
overflow_mul-i c =
    let a = c.args in
    let R = a.octets.now in
    omega (arith, (small R c.requires.0.sizes).few, c.requires.1)

pub overflow_add-i : goal.overflow_add-i
overflow_add-i c =
    let a = c.args in
    let R = a.octets.now in
    omega (arith, (small R c.requires.0.sizes).few, c.requires.1)

pub number_at-z-requires : goal.number_at-z-requires
number_at-z-requires c =
    let a = c.args in
    let R = a.octets.now in
    omega (arith, (shape_is R c.requires.0.shape).pair a.i (omega (arith, c.requires.0.sizes.t_is, c.requires.1)))

pub returns : goal.returns
unfolding z
returns c =
    let a = c.args in
    let R = a.octets.now in
    let n = c.requires.0.sizes in
    let long : length (table R a.i) ≡ table_size R = table-length R n c.requires.0.shape a.i c.requires.1 ∙ n.size_is in
    over-with R a.i c.number_at-z.ensures.0 c.table.ensures.same long c.first_over.result c.first_over.ensures
