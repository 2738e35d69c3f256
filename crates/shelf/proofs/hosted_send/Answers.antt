use mathlib.Core.Path.{◌∙◌}
use Rattle.std.proofs.lemmas.Result.{err_from_is_err_and}
use Rattle.bits.proofs.Answers.{refusal-numbered}
use Rattle.shelf.proofs.Hosted.{hosted-refused, hosted-found}
use Rattle.shelf.proofs.hosted_send.Goals as goal

pub returns-in_err-look : goal.returns-in_err-look
returns-in_err-look c =
    let p = err_from_is_err_and c.from_residual.result c.from_residual.ensures.1 in
    rw (p.1, p.2) (hosted-refused _ _ _ _ _ _ _ c.in_err-look.ensures (refusal-numbered _))

pub stretch-given-requires : goal.stretch-given-requires
stretch-given-requires c = c.in_ok-look.ensures.inside

pub returns : goal.returns
returns c =
    let l = c.in_ok-look.ensures in
    hosted-found _ _ _ _ _ _ _ _ l.done _ (c.stretch-given.ensures.0 ∙ l.octets) c.send.ensures
