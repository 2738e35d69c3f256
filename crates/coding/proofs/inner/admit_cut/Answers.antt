use mathlib.Core.Path.{sym, ◌∙◌}
use Rattle.std.proofs.lemmas.Result.{err_from_is_err_and}
use Rattle.bits.proofs.Answers.{refusal-numbered}
use Rattle.cutting.proofs.Plans.{answer-number}
use Rattle.coding.proofs.RequestNumber.{not-refused, cut-first, cut-refused, cut-sixteen, cut-eight, cut-nine}
use Rattle.coding.proofs.inner.admit_cut.Goals as goal

pub returns-in_err-judge-clause-number : goal.returns-in_err-judge-clause-number
returns-in_err-judge-clause-number c =
    let a = c.args in
    let p = err_from_is_err_and c.from_residual.result c.from_residual.ensures.1 in
    let told = c.in_err-judge.ensures in
    rw (p.1, p.2) (told ∙ cut-first a.profile.now a.octets a.terms a.g.0 (λ z. refusal-numbered _ (told ∙ z)))

pub returns-then-is_refused_first-clause-number : goal.returns-then-is_refused_first-clause-number
returns-then-is_refused_first-clause-number c =
    let a = c.args in
    let number = answer-number a.profile.now a.terms.edition a.octets _ c.plan_accepted-cut.ensures in
    cut-refused a.profile.now a.octets a.terms a.g.0 (sym c.in_ok-judge.ensures) _ number (sym c.is_refused_first.ensures ∙ c.if-is_refused_first.true)

pub returns-then-misversioned-clause-number : goal.returns-then-misversioned-clause-number
returns-then-misversioned-clause-number c =
    let a = c.args in
    let number = answer-number a.profile.now a.terms.edition a.octets _ c.plan_accepted-cut.ensures in
    let past = not-refused _ (sym c.is_refused_first.ensures ∙ c.if-is_refused_first.false) in
    let version = rw c.kind-kind.ensures.0 at c.is_misversioned-misversioned.ensures in
    cut-sixteen a.profile.now a.octets a.terms a.g.0 (sym c.in_ok-judge.ensures) _ number past.0 past.1 (sym version ∙ c.if-misversioned.true)

pub returns-then-misallocated-clause-number : goal.returns-then-misallocated-clause-number
returns-then-misallocated-clause-number c =
    let a = c.args in
    let number = answer-number a.profile.now a.terms.edition a.octets _ c.plan_accepted-cut.ensures in
    let past = not-refused _ (sym c.is_refused_first.ensures ∙ c.if-is_refused_first.false) in
    let version = rw c.kind-kind.ensures.0 at c.is_misversioned-misversioned.ensures in
    cut-eight a.profile.now a.octets a.terms a.g.0 (sym c.in_ok-judge.ensures) _ number past.0 past.1 (sym version ∙ c.if-misversioned.false)
    (sym c.is_misallocated-misallocated.ensures ∙ c.if-misallocated.true)

pub returns-clause-number : goal.returns-clause-number
returns-clause-number c =
    let a = c.args in
    let number = answer-number a.profile.now a.terms.edition a.octets _ c.plan_accepted-cut.ensures in
    let past = not-refused _ (sym c.is_refused_first.ensures ∙ c.if-is_refused_first.false) in
    let version = rw c.kind-kind.ensures.0 at c.is_misversioned-misversioned.ensures in
    cut-nine a.profile.now a.octets a.terms a.g.0 (sym c.in_ok-judge.ensures) _ number past.0 past.1 (sym version ∙ c.if-misversioned.false)
    (sym c.is_misallocated-misallocated.ensures ∙ c.if-misallocated.false)
