use mathlib.Core.Path.{refl, sym, ap}
use Prim.Native.Nat.{ℕ, ◌*◌}
use native.Mathlib.Nat.{mul-le-mul}
use native.Mathlib.Omega.{arith}
use Rattle.std.proofs.lemmas.Result.{err_from_is_err_and}
use Rattle.bits.proofs.Answers.{refusal-numbered}
use Rattle.parity.proofs.Ready.{ready, table_read}
use Rattle.checking.proofs.Answers.{shape_is, sums_read, sums-fit, summed-refused, summed-done}
use Rattle.checking.proofs.row_sums.Goals as goal

pub returns-in_err-index : goal.returns-in_err-index
returns-in_err-index c =
    let p = err_from_is_err_and c.from_residual.result c.from_residual.ensures.1 in
    rw (p.1, p.2) (summed-refused _ _ _ _ _ c.in_err-index.ensures.number (refusal-numbered _))

pub rows-rows-requires : goal.rows-rows-requires
rows-rows-requires c = (sums-fit _ _ _ _ (sym c.in_ok-index.ensures.number)).0.judged

pub columns-columns-requires : goal.columns-columns-requires
columns-columns-requires c = (sums-fit _ _ _ _ (sym c.in_ok-index.ensures.number)).0.judged

pub table-table-requires : goal.table-table-requires
table-table-requires c =
    let fit = (sums-fit _ _ _ _ (sym c.in_ok-index.ensures.number)).0 in
    (fit.judged, omega (arith, c.in_ok-index.ensures.found, (ready _ _ fit.judged fit.size).below))

pub overflow_mul-count : goal.overflow_mul-count
overflow_mul-count c =
    let shape = (sums-fit _ _ _ _ (sym c.in_ok-index.ensures.number)).0.shape in
    omega (arith, mul-le-mul c.rows-rows.ensures.2 shape.z_most)

pub put_sums-requires : goal.put_sums-requires
put_sums-requires c =
    let found = sums-fit _ _ _ _ (sym c.in_ok-index.ensures.number) in
    let a = c.args in
    let n-is = c.rows-rows.ensures.0 in
    let c-is = c.columns-columns.ensures.0 in
    let table_is = table_read a.profile.now a.z _ _ c.table-table.ensures c.in_ok-index.ensures.found in
    (shape_is _ _ _ _ _ table_is n-is c-is found.0.shape, rw c-is found.0.long, rw n-is found.1)

pub returns : goal.returns
returns c =
    let a = c.args in
    let n-is = c.rows-rows.ensures.0 in
    let table_is = table_read a.profile.now a.z _ _ c.table-table.ensures c.in_ok-index.ensures.found in
    let read = sums_read _ _ _ _ _ table_is n-is c.columns-columns.ensures.0 a.word.now a.out.now c.put_sums.ensures in
    summed-done _ _ _ _ _ c.in_ok-index.ensures.number refl _
    (ap (λ (n : ℕ). n * a.z) n-is) _ read
