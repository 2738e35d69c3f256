-- its tests, in their order.
use mathlib.Core.Path.{refl, sym}
use native.Mathlib.Omega.{arith}
use Rattle.std.proofs.lemmas.Result.{err_from_is_err_and}
use Rattle.bits.proofs.Answers.{refusal-numbered}
use Rattle.checking.proofs.Answers.{fit, rows_most, sums_first, sums-11, sums-12, sums-0}
use Rattle.checking.proofs.gate.admit_sums.Goals as goal

pub returns-in_err-index-clause-number : goal.returns-in_err-index-clause-number
returns-in_err-index-clause-number c =
    let p = err_from_is_err_and c.from_residual.result c.from_residual.ensures.1 in
    rw (p.1, p.2) (sums_first _ _ _ _ _ c.in_err-index.ensures.number (refusal-numbered _))

pub rows-rows-requires : goal.rows-rows-requires
rows-rows-requires c = (fit _ _ _ (sym c.in_ok-index.ensures.number)).judged

pub overflow_mul-rows : goal.overflow_mul-rows
overflow_mul-rows c = omega (arith, rows_most _ _ _ c.args.room _ c.in_ok-index.ensures.number refl _ c.rows-rows.ensures.0)

pub returns-then-room-rows-clause-number : goal.returns-then-room-rows-clause-number
returns-then-room-rows-clause-number c = sums-11 _ _ _ _ _ c.in_ok-index.ensures.number refl _ c.rows-rows.ensures.0 c.if-room-rows.true

pub returns-then-over-clause-number : goal.returns-then-over-clause-number
returns-then-over-clause-number c =
    sums-12 _ _ _ _ _ c.in_ok-index.ensures.number refl _ c.rows-rows.ensures.0 c.if-room-rows.false _ c.some_over-over.ensures c.if-over.true

pub returns-clause-number : goal.returns-clause-number
returns-clause-number c =
    sums-0 _ _ _ _ _ c.in_ok-index.ensures.number refl _ c.rows-rows.ensures.0 c.if-room-rows.false _ c.some_over-over.ensures c.if-over.false
