use Rattle.std.proofs.lemmas.Result.{err_from_is_err_and}
use Rattle.cutting.proofs.Answers.{unjudged-planned}
use Rattle.cutting.proofs.plan_block.Goals as goal

pub returns-in_err-judge : goal.returns-in_err-judge
returns-in_err-judge c =
    let a = c.args in
    let p = err_from_is_err_and c.from_residual.result c.from_residual.ensures.1 in
    rw (p.1, p.2) (unjudged-planned a.profile.now a.edition a.octets _ c.in_err-judge.ensures)
