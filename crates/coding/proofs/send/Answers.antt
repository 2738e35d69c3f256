use mathlib.Core.Path.{sym, ◌∙◌}
use lib.ListN.{length}
use Rattle.std.proofs.lemmas.Result.{err_from_is_err_and}
use Rattle.bits.proofs.Answers.{refusal-numbered}
use Rattle.coding.proofs.Answers.{request_is, send-refused, send-done}
use Rattle.coding.proofs.send.Goals as goal

pub returns-in_err-plan : goal.returns-in_err-plan
returns-in_err-plan c =
    let a = c.args in
    let p = err_from_is_err_and c.from_residual.result c.from_residual.ensures.1 in
    rw (p.1, p.2)
    (send-refused a.profile.now a.block.now a.terms a.g.0 a.out.now _
    (c.in_err-plan.ensures.number ∙ request_is a.profile.now a.block.now a.terms a.g.0 (length a.out.now)) (refusal-numbered _))

pub returns : goal.returns
returns c =
    let a = c.args in
    send-done a.profile.now a.block.now a.terms a.g.0 a.out.now
    (sym (c.in_ok-plan.ensures.number ∙ request_is a.profile.now a.block.now a.terms a.g.0 (length a.out.now))) _ c.send_accepted.ensures
