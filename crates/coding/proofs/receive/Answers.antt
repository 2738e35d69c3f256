use mathlib.Core.Path.{sym, ◌∙◌}
use lib.ListN.{length}
use Rattle.std.proofs.lemmas.Result.{err_from_is_err_and}
use Rattle.bits.proofs.Answers.{refusal-numbered}
use Rattle.coding.proofs.ReceptionNumber.{reception_passed, receive-first, receive-refused, receive_decided}
use Rattle.coding.proofs.receive.Goals as goal

pub returns-in_err-plan : goal.returns-in_err-plan
returns-in_err-plan c =
    let a = c.args in
    let p = err_from_is_err_and c.from_residual.result c.from_residual.ensures.1 in
    let told = c.in_err-plan.ensures.number in
    let first = receive-first a.profile.now a.a a.terms a.bits.now a.out.now (λ z. refusal-numbered _ (told ∙ z)) in
    rw (p.1, p.2) (receive-refused a.profile.now a.a a.terms a.bits.now a.out.now _ (told ∙ first) (refusal-numbered _))

pub receive_accepted-requires : goal.receive_accepted-requires
receive_accepted-requires c =
    let a = c.args in
    let passed = reception_passed a.profile.now a.a a.terms a.bits.now (length a.out.now) (sym c.in_ok-plan.ensures.number) in
    (passed.0, c.in_ok-plan.ensures.plan, passed.1)

pub returns : goal.returns
returns c =
    let a = c.args in
    receive_decided a.profile.now a.a a.terms a.bits.now a.out.now (sym c.in_ok-plan.ensures.number) _ _ c.receive_accepted.ensures
