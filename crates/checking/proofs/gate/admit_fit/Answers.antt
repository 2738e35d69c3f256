-- its tests, in their order.
use mathlib.Core.Path.{sym, ◌∙◌}
use Rattle.std.proofs.lemmas.Result.{err_from_is_err_and}
use Rattle.checking.proofs.Answers.{fit_unjudged, fit_judged}
use Rattle.checking.proofs.gate.admit_fit.Goals as goal

pub returns-in_err-judge-clause-number : goal.returns-in_err-judge-clause-number
returns-in_err-judge-clause-number c =
    let p = err_from_is_err_and c.from_residual.result c.from_residual.ensures.1 in
    rw (p.1, p.2) (fit_unjudged _ _ _ _ c.in_err-judge.ensures)

pub returns-clause-number : goal.returns-clause-number
returns-clause-number c =
    rw c.columns.ensures.0 at c.admit_size.ensures.number ∙ sym (fit_judged _ _ _ (sym c.in_ok-judge.ensures))
