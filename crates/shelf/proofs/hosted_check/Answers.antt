use mathlib.Core.Path.{◌∙◌}
use Rattle.std.proofs.lemmas.Result.{err_from_is_err_and}
use Rattle.bits.proofs.Answers.{refusal-numbered}
use Rattle.shelf.proofs.Hosted.{check_refused, check_found}
use Rattle.shelf.proofs.hosted_check.Goals as goal

pub returns-in_err-look : goal.returns-in_err-look
returns-in_err-look c =
    let p = err_from_is_err_and c.from_residual.result c.from_residual.ensures.1 in
    rw (p.1, p.2) (check_refused _ _ _ _ _ _ _ c.in_err-look.ensures (refusal-numbered _))

pub stretch-printed-requires : goal.stretch-printed-requires
stretch-printed-requires c = c.in_ok-look.ensures.inside

pub returns : goal.returns
returns c =
    let l = c.in_ok-look.ensures in
    check_found _ _ _ _ _ _ _ l.done _ (c.stretch-printed.ensures.0 ∙ l.octets) c.check_word.ensures
