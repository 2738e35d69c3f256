use Rattle.std.proofs.lemmas.Result.{err_from_is_err_and}
use mathlib.Core.Path.{◌≡◌, sym}
use mathlib.Core.Bool.{false}
use native.Mathlib.Omega.{arith}
use Rattle.parity.specs.Promises.{unfit}
use Rattle.parity.proofs.Answers.{fits, fit_is, code_unjudged, code_unfit}
use Rattle.parity.proofs.Ready.{places-most}
use Rattle.parity.proofs.gate.admit_block.Goals as goal

pub returns-in_err-judge-clause-number : goal.returns-in_err-judge-clause-number
returns-in_err-judge-clause-number c =
    let a = c.args in
    let p = err_from_is_err_and c.from_residual.result c.from_residual.ensures.1 in
    rw (p.1, p.2) (code_unjudged a.profile.now a.z a.places.now a.room _ c.in_err-judge.ensures)

pub returns-in_err-index-clause-number : goal.returns-in_err-index-clause-number
returns-in_err-index-clause-number c =
    let a = c.args in
    let p = err_from_is_err_and c.from_residual-in_err-index.result c.from_residual-in_err-index.ensures.1 in
    rw (p.1, p.2) (code_unfit a.profile.now a.z a.places.now a.room _ (sym c.in_ok-judge.ensures) (rw c.kb.ensures.0 at c.in_err-index.ensures.number))

pub overflow_mul-columns : goal.overflow_mul-columns
overflow_mul-columns c =
    let a = c.args in
    let fit : unfit a.profile.now a.z c.kb.result a.places.now ≡ false = fit_is _ c.in_ok-index.ensures.number in
    omega (arith, places-most a.profile.now a.z (sym c.in_ok-judge.ensures) (fits a.profile.now a.z _ _ fit).0 _ c.columns.ensures.0)
