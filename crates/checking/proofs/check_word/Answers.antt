use mathlib.Core.Path.{refl, sym}
use native.Mathlib.Omega.{arith}
use Rattle.std.proofs.lemmas.Result.{err_from_is_err_and}
use Rattle.bits.proofs.Answers.{refusal-numbered}
use Rattle.parity.proofs.Ready.{ready, table_read}
use Rattle.checking.proofs.Answers.{shape_is, check_read, word_fit, checked_refused, checked-done}
use Rattle.checking.proofs.check_word.Goals as goal

pub returns-in_err-at : goal.returns-in_err-at
returns-in_err-at c =
    let p = err_from_is_err_and c.from_residual.result c.from_residual.ensures.1 in
    rw (p.1, p.2) (checked_refused _ _ _ _ c.in_err-at.ensures.number (refusal-numbered _))

pub rows-rows-requires : goal.rows-rows-requires
rows-rows-requires c = (word_fit _ _ _ (sym c.in_ok-at.ensures.number)).judged

pub columns-columns-requires : goal.columns-columns-requires
columns-columns-requires c = (word_fit _ _ _ (sym c.in_ok-at.ensures.number)).judged

pub table-table-requires : goal.table-table-requires
table-table-requires c =
    let fit = word_fit _ _ _ (sym c.in_ok-at.ensures.number) in
    (fit.judged, omega (arith, c.in_ok-at.ensures.found, (ready _ _ fit.judged fit.size).below))

pub checks_by-checks-requires : goal.checks_by-checks-requires
checks_by-checks-requires c =
    let fit = word_fit _ _ _ (sym c.in_ok-at.ensures.number) in
    let a = c.args in
    let c-is = c.columns-columns.ensures.0 in
    let table_is = table_read a.profile.now a.z _ _ c.table-table.ensures c.in_ok-at.ensures.found in
    (shape_is _ _ _ _ _ table_is c.rows-rows.ensures.0 c-is fit.shape, rw c-is fit.long)

pub returns : goal.returns
returns c =
    let a = c.args in
    let table_is = table_read a.profile.now a.z _ _ c.table-table.ensures c.in_ok-at.ensures.found in
    let read = check_read _ _ _ _ _ table_is c.rows-rows.ensures.0 c.columns-columns.ensures.0 a.word.now c.checks_by-checks.ensures in
    checked-done _ _ _ _ c.in_ok-at.ensures.number refl _ read
