use Rattle.cutting.proofs.PlanFields.{some-fields, index_below_t}
use Rattle.block.proofs.PlanFields.{shape_here}
use Rattle.block.proofs.inner.is_even.Goals as goal

pub rows-rows-requires : goal.rows-rows-requires
rows-rows-requires c =
    let a = c.args in
    let R = a.profile.now in
    let k = some-fields R a.plan c.requires.0 in
    k.accepted

pub columns-columns-requires : goal.columns-columns-requires
columns-columns-requires c =
    let a = c.args in
    let R = a.profile.now in
    let k = some-fields R a.plan c.requires.0 in
    k.accepted

pub table-table-requires : goal.table-table-requires
table-table-requires c =
    let a = c.args in
    let R = a.profile.now in
    let k = some-fields R a.plan c.requires.0 in
    (k.accepted, index_below_t R a.plan k)

pub checks_by-requires : goal.checks_by-requires
checks_by-requires c =
    let a = c.args in
    let R = a.profile.now in
    let k = some-fields R a.plan c.requires.0 in
    rw (c.table-table.ensures, c.columns-columns.ensures.0, c.rows-rows.ensures.0) (shape_here R a.plan k, c.requires.1)
