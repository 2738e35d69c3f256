use Rattle.cutting.proofs.PlanFields.{some-fields, index_below_t}
use Rattle.block.proofs.PlanFields.{codable_here}
use Rattle.block.proofs.inner.solve.Goals as goal

pub kb-kb-requires : goal.kb-kb-requires
kb-kb-requires c =
    let a = c.args in
    let R = a.profile.now in
    let k = some-fields R a.plan c.requires.0 in
    k.accepted

pub m-m-requires : goal.m-m-requires
m-m-requires c =
    let a = c.args in
    let R = a.profile.now in
    let k = some-fields R a.plan c.requires.0 in
    k.accepted

pub rows-rows-requires : goal.rows-rows-requires
rows-rows-requires c =
    let a = c.args in
    let R = a.profile.now in
    let k = some-fields R a.plan c.requires.0 in
    k.accepted

pub columns-columns-requires : goal.columns-columns-requires
columns-columns-requires c =
    let a = c.args in
    let R = a.profile.now in
    let k = some-fields R a.plan c.requires.0 in
    k.accepted

pub table-table-requires : goal.table-table-requires
table-table-requires c =
    let a = c.args in
    let R = a.profile.now in
    let k = some-fields R a.plan c.requires.0 in
    (k.accepted, index_below_t R a.plan k)

pub code-requires : goal.code-requires
code-requires c =
    let a = c.args in
    let R = a.profile.now in
    let k = some-fields R a.plan c.requires.0 in
    rw (c.table-table.ensures, c.columns-columns.ensures.0, c.rows-rows.ensures.0, c.m-m.ensures.0, c.kb-kb.ensures.0) (codable_here R a.plan k a.word.now c.requires.1)
